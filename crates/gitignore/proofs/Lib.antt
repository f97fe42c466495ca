mod ClassLemmas
mod PieceLemmas
mod FitsLemmas
mod LineLemmas

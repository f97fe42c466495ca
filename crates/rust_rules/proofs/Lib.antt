mod CountLemmas
mod EachLemmas
mod ListLemmas
mod MoveLemmas

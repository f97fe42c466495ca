mod PathChains
mod Downwards
mod MetaChains
mod Opened
mod PassedNodes

mod Among
mod Exact
mod Lowest
mod Removals
mod Sets

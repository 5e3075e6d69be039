mod OrderedPairs
mod BoundLemmas
mod ShapeLemmas
mod Keeping

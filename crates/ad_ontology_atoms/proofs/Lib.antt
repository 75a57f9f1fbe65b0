mod BesideLemmas
mod GenuineLemmas
mod ShapeLemmas
mod ExistenceLemmas
mod UnionLemmas

pub mod OntologyAtoms

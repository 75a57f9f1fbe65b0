pub mod OntologyLogic
pub mod OntologyModule
pub mod ModuleDocument

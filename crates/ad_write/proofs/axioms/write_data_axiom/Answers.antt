-- Each axiom on data is written as the compound of its row.
use Rattle.ad_write.proofs.axioms.write_data_axiom.Goals as goal

pub returns-in-SubDataPropertyOf : goal.returns-in-SubDataPropertyOf
returns-in-SubDataPropertyOf g c = rw c.in-SubDataPropertyOf.is c.two.ensures

pub returns-in-EquivalentDataProperties : goal.returns-in-EquivalentDataProperties
returns-in-EquivalentDataProperties g c = rw c.in-EquivalentDataProperties.is c.list.ensures

pub returns-in-DisjointDataProperties : goal.returns-in-DisjointDataProperties
returns-in-DisjointDataProperties g c = rw c.in-DisjointDataProperties.is c.list-in-DisjointDataProperties.ensures

pub returns-in-DataPropertyDomain : goal.returns-in-DataPropertyDomain
returns-in-DataPropertyDomain g c = rw c.in-DataPropertyDomain.is c.two-in-DataPropertyDomain.ensures

pub returns-in-DataPropertyRange : goal.returns-in-DataPropertyRange
returns-in-DataPropertyRange g c = rw c.in-DataPropertyRange.is c.two-in-DataPropertyRange.ensures

pub returns-in-FunctionalDataProperty : goal.returns-in-FunctionalDataProperty
returns-in-FunctionalDataProperty g c = rw c.in-FunctionalDataProperty.is c.one.ensures

pub returns-in-DatatypeDefinition : goal.returns-in-DatatypeDefinition
returns-in-DatatypeDefinition g c = rw c.in-DatatypeDefinition.is c.two-in-DatatypeDefinition.ensures

pub returns-in-HasKey : goal.returns-in-HasKey
returns-in-HasKey g c = rw c.in-HasKey.is c.key.ensures

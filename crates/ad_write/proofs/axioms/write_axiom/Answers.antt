-- Each axiom of the first group is written as the compound of its row.
use Rattle.ad_write.proofs.axioms.write_axiom.Goals as goal

pub returns-in-SubClassOf : goal.returns-in-SubClassOf
returns-in-SubClassOf g c = rw c.in-SubClassOf.is c.two.ensures

pub returns-in-EquivalentClasses : goal.returns-in-EquivalentClasses
returns-in-EquivalentClasses g c = rw c.in-EquivalentClasses.is c.list.ensures

pub returns-in-DisjointClasses : goal.returns-in-DisjointClasses
returns-in-DisjointClasses g c = rw c.in-DisjointClasses.is c.list-in-DisjointClasses.ensures

pub returns-in-DisjointUnion : goal.returns-in-DisjointUnion
returns-in-DisjointUnion g c = rw c.in-DisjointUnion.is c.one_and_list.ensures

pub returns-in-SubObjectPropertyOf : goal.returns-in-SubObjectPropertyOf
returns-in-SubObjectPropertyOf g c = rw c.in-SubObjectPropertyOf.is c.two-in-SubObjectPropertyOf.ensures

pub returns-in-SubObjectPropertyChainOf : goal.returns-in-SubObjectPropertyChainOf
returns-in-SubObjectPropertyChainOf g c = rw c.in-SubObjectPropertyChainOf.is c.chain.ensures

pub returns-in-EquivalentObjectProperties : goal.returns-in-EquivalentObjectProperties
returns-in-EquivalentObjectProperties g c = rw c.in-EquivalentObjectProperties.is c.list-in-EquivalentObjectProperties.ensures

pub returns-in-DisjointObjectProperties : goal.returns-in-DisjointObjectProperties
returns-in-DisjointObjectProperties g c = rw c.in-DisjointObjectProperties.is c.list-in-DisjointObjectProperties.ensures

pub returns-in-InverseObjectProperties : goal.returns-in-InverseObjectProperties
returns-in-InverseObjectProperties g c = rw c.in-InverseObjectProperties.is c.two-in-InverseObjectProperties.ensures

pub returns-in-ObjectPropertyDomain : goal.returns-in-ObjectPropertyDomain
returns-in-ObjectPropertyDomain g c = rw c.in-ObjectPropertyDomain.is c.two-in-ObjectPropertyDomain.ensures

pub returns-in-ObjectPropertyRange : goal.returns-in-ObjectPropertyRange
returns-in-ObjectPropertyRange g c = rw c.in-ObjectPropertyRange.is c.two-in-ObjectPropertyRange.ensures

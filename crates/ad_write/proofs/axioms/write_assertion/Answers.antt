-- Each of the last group is written as the compound of its row.
use Rattle.ad_write.proofs.axioms.write_assertion.Goals as goal

pub returns-in-SameIndividual : goal.returns-in-SameIndividual
returns-in-SameIndividual g c = rw c.in-SameIndividual.is c.list.ensures

pub returns-in-DifferentIndividuals : goal.returns-in-DifferentIndividuals
returns-in-DifferentIndividuals g c = rw c.in-DifferentIndividuals.is c.list-in-DifferentIndividuals.ensures

pub returns-in-ClassAssertion : goal.returns-in-ClassAssertion
returns-in-ClassAssertion g c = rw c.in-ClassAssertion.is c.two.ensures

pub returns-in-ObjectPropertyAssertion : goal.returns-in-ObjectPropertyAssertion
returns-in-ObjectPropertyAssertion g c = rw c.in-ObjectPropertyAssertion.is c.three.ensures

pub returns-in-NegativeObjectPropertyAssertion : goal.returns-in-NegativeObjectPropertyAssertion
returns-in-NegativeObjectPropertyAssertion g c = rw c.in-NegativeObjectPropertyAssertion.is c.three-in-NegativeObjectPropertyAssertion.ensures

pub returns-in-DataPropertyAssertion : goal.returns-in-DataPropertyAssertion
returns-in-DataPropertyAssertion g c = rw c.in-DataPropertyAssertion.is c.three-in-DataPropertyAssertion.ensures

pub returns-in-NegativeDataPropertyAssertion : goal.returns-in-NegativeDataPropertyAssertion
returns-in-NegativeDataPropertyAssertion g c = rw c.in-NegativeDataPropertyAssertion.is c.three-in-NegativeDataPropertyAssertion.ensures

pub returns-in-Declaration : goal.returns-in-Declaration
returns-in-Declaration g c = rw c.in-Declaration.is c.one.ensures

pub returns-in-AnnotationAssertion : goal.returns-in-AnnotationAssertion
returns-in-AnnotationAssertion g c = rw c.in-AnnotationAssertion.is c.three-in-AnnotationAssertion.ensures

pub returns-in-SubAnnotationPropertyOf : goal.returns-in-SubAnnotationPropertyOf
returns-in-SubAnnotationPropertyOf g c = rw c.in-SubAnnotationPropertyOf.is c.two-in-SubAnnotationPropertyOf.ensures

pub returns-in-AnnotationPropertyDomain : goal.returns-in-AnnotationPropertyDomain
returns-in-AnnotationPropertyDomain g c = rw c.in-AnnotationPropertyDomain.is c.two-in-AnnotationPropertyDomain.ensures

pub returns-in-AnnotationPropertyRange : goal.returns-in-AnnotationPropertyRange
returns-in-AnnotationPropertyRange g c = rw c.in-AnnotationPropertyRange.is c.two-in-AnnotationPropertyRange.ensures

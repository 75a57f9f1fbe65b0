use Rattle.ad_decomposition.proofs.Classes.{no_atom, numbered, one_atom, atom_of_first}
use Rattle.ad_decomposition.proofs.laws.atoms_are_classes.Goals as goal

pub returns-clause-tautology : goal.returns-clause-tautology
returns-clause-tautology g c G order a o = no_atom G order a o

pub returns-clause-numbered : goal.returns-clause-numbered
returns-clause-numbered g c G order a o t = numbered G order a o t

pub returns-clause-same : goal.returns-clause-same
returns-clause-same g c G order a b o q s t = one_atom G order a b o q s t

pub returns-clause-first : goal.returns-clause-first
returns-clause-first g c G order k d l = atom_of_first G order k d l

-- The names of the classes of a generated ontology.
use Rattle.std.specs.Prelude.{ℕ, List, ◌++◌, codes, decimal}

-- the class with this number
abbrev pub class_name : ℕ → List ℕ
class_name number = codes "u:C" ++ decimal number

-- the class that is equivalent to it
abbrev pub twin_name : ℕ → List ℕ
twin_name number = codes "u:D" ++ decimal number

-- the class of everything
abbrev pub thing : List ℕ
thing = codes "http://www.w3.org/2002/07/owl#Thing"

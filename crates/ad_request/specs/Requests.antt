-- The lines of a session and what they ask for. A line stands here without the line feed that ends it.
use Rattle.std.specs.Prelude.{◌≡◌, ℕ, ◌^◌, ◌<◌, List, ◌++◌, Option, None, Some, codes, decimal}
use Rattle.ad_base.specs.Kinds.{kind_word}
use Rattle.ad_request.specs.declared.request.Request.{Request}
use Rattle.ad_request.specs.declared.request.Request.TheVariants.{Load, Edit, Module, Genuine, Atoms, Atom, Export, Stat, Quit}

-- the line of a request: words with one space between them
abbrev pub request_line : Request → List ℕ
request_line (Load n) = codes "LOAD " ++ decimal n
request_line (Edit n None) = codes "EDIT " ++ decimal n
request_line (Edit n (Some edition)) = codes "EDIT " ++ decimal n ++ codes " IF " ++ decimal edition
request_line (Module kind n) = codes "MODULE " ++ kind_word kind ++ codes " " ++ decimal n
request_line (Genuine kind n) = codes "GENUINE " ++ kind_word kind ++ codes " " ++ decimal n
request_line (Atoms kind) = codes "ATOMS " ++ kind_word kind
request_line (Atom kind n) = codes "ATOM " ++ kind_word kind ++ codes " " ++ decimal n
request_line Export = codes "EXPORT"
request_line Stat = codes "STAT"
request_line Quit = codes "QUIT"

-- a number in a line has one to ten digits
abbrev pub IsSpelledShort : ℕ → Type 0
IsSpelledShort n = n < 10 ^ 10

-- each number that the request names is short
abbrev pub HasShortNumbers : Request → Type 0
HasShortNumbers (Load n) = IsSpelledShort n
HasShortNumbers (Edit n None) = IsSpelledShort n
HasShortNumbers (Edit n (Some edition)) = IsSpelledShort n × IsSpelledShort edition
HasShortNumbers (Module kind n) = IsSpelledShort n
HasShortNumbers (Genuine kind n) = IsSpelledShort n
HasShortNumbers (Atoms kind) = Unit {0}
HasShortNumbers (Atom kind n) = IsSpelledShort n
HasShortNumbers Export = Unit {0}
HasShortNumbers Stat = Unit {0}
HasShortNumbers Quit = Unit {0}

-- what a line asks for, or that it asks for nothing
abbrev pub Asks : List ℕ → Option Request → Type 0
Asks line (Some request) = HasShortNumbers request × (line ≡ request_line request)
Asks line None = (request : Request) → HasShortNumbers request → line ≡ request_line request → ⊥

-- how many bytes the payload has that stands behind a line
abbrev pub payload_size : Request → ℕ
payload_size (Load n) = n
payload_size (Edit n expected) = n
payload_size (Module kind n) = n
payload_size (Genuine kind n) = n
payload_size (Atoms kind) = 0
payload_size (Atom kind n) = 0
payload_size Export = 0
payload_size Stat = 0
payload_size Quit = 0

-- the edition that an edit expects to be the newest, if it names one
abbrev pub expected_of : Request → Option ℕ
expected_of (Load n) = None
expected_of (Edit n expected) = expected
expected_of (Module kind n) = None
expected_of (Genuine kind n) = None
expected_of (Atoms kind) = None
expected_of (Atom kind n) = None
expected_of Export = None
expected_of Stat = None
expected_of Quit = None

-- a line asks for one thing only
abbrev pub AsksForOneThing : Type 0
AsksForOneThing = (line : List ℕ) (one other : Option Request) → Asks line one → Asks line other → one ≡ other

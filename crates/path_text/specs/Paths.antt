-- The path that a text stands for, by the names of a list.
use Rattle.std.specs.Prelude.{ℕ, if◌then◌else◌, List, [], ◌∷◌, filter, filter_map, length, is_none, Some, None, Ok, Err, Option, Result, nat_lt}
use Rattle.hir_def.specs.declared.Name.{Name}
use Rattle.hir_def.specs.declared.fault.TextFault.{TextFault}
use Rattle.hir_def.specs.declared.fault.TextFault.TheVariants.{TooManyNames, TooManySupers, UnknownName}
use Rattle.path_text.specs.declared.mod_path.PathKind.{PathKind}
use Rattle.path_text.specs.declared.mod_path.PathKind.TheVariants as kind
use Rattle.path_text.specs.declared.segment.WordKind.{WordKind}
use Rattle.path_text.specs.declared.segment.WordKind.TheVariants.{Empty, Crate, Own, Super}
use Rattle.path_text.specs.Segments.{Piece, word_of, is_name, segments}
use Rattle.path_text.specs.Language.{is_super}
use Rattle.path_text.specs.Lists.{first, as_name}
use Rattle.path_text.specs.Texts.{stop_of, unless_stopped}

-- the names among the words, and how many words are `super`
abbrev pub names_in : List Piece → List Piece
names_in ss = filter (λ s. is_name (word_of s.text)) ss

abbrev pub level_in : List Piece → ℕ
level_in ss = length (filter (λ s. is_super (word_of s.text)) ss)

-- what the first word is
abbrev pub start_in : List Piece → Option WordKind
start_in [] = None
start_in (s ∷ ss) = Some (word_of s.text)

-- the kind of a path with that first word and so many `super`
abbrev pub kind_by : Option WordKind → ℕ → PathKind
kind_by (Some Empty) n = kind.Abs
kind_by (Some Crate) n = kind.Crate
kind_by (Some Own) n = kind.Super n
kind_by (Some Super) n = kind.Super n
kind_by _ n = kind.Plain

abbrev pub kind_in : List Piece → PathKind
kind_in ss = kind_by (start_in ss) (level_in ss)

-- a name's number among the lines
abbrev pub number_of : List (List ℕ) → Piece → Option Name
number_of ls s = as_name (first ls s.text 0)

-- the numbers of the names that are lines, and the place of the first name that is none
abbrev pub listed_in : List (List ℕ) → List Piece → List Name
listed_in ls ss = filter_map (number_of ls) ss

abbrev pub unlisted_in : List (List ℕ) → List Piece → Option ℕ
unlisted_in ls [] = None
unlisted_in ls (s ∷ ss) = if is_none (number_of ls s) then Some s.place else unlisted_in ls ss

-- at most 64 names, then at most 255 `super`, and then each name is a line
abbrev pub all_listed : Option ℕ → Result (Unit {0}) TextFault
all_listed None = Ok tt
all_listed (Some place) = Err (UnknownName place)

abbrev pub counts_of : ℕ → ℕ → Option ℕ → Result (Unit {0}) TextFault
counts_of names level unlisted = if nat_lt 64 names then Err TooManyNames else if nat_lt 255 level then Err TooManySupers else all_listed unlisted

abbrev pub Read : Type 0
Read = Result (PathKind × List Name) TextFault

abbrev pub allowed : Result (Unit {0}) TextFault → PathKind × List Name → Read
allowed (Ok u) p = Ok p
allowed (Err f) p = Err f

abbrev pub read_words : List (List ℕ) → List Piece → Read
read_words ls ss =
    allowed (counts_of (length (names_in ss)) (level_in ss) (unlisted_in ls (names_in ss))) (kind_in ss, listed_in ls (names_in ss))

-- the language first, then the counts, then the names
abbrev pub read_of : List (List ℕ) → List ℕ → Read
read_of ls text = unless_stopped (stop_of text) (read_words ls (segments 0 text))

-- Where a text stops being a path, segment by segment.
use Rattle.std.specs.Prelude.{ℕ, ◌+◌, Bool, true, false, cond, List, [], ◌∷◌, Some, None, Option}
use Rattle.std.specs.Option.{option_or}
use Rattle.path_text.specs.declared.segment.Next.{Next}
use Rattle.path_text.specs.declared.segment.Next.TheVariants.{Word, End, Byte}
use Rattle.path_text.specs.declared.segment.WordKind.{WordKind}
use Rattle.path_text.specs.declared.segment.WordKind.TheVariants.{Empty, Own, Super, Bare, Name, Digits}
use Rattle.path_text.specs.declared.language.Before.{Before}
use Rattle.path_text.specs.declared.language.Before.TheVariants.{Nothing, Supers, Names}
use Rattle.path_text.specs.Segments.{Piece, word_of}

abbrev pub is_super : WordKind → Bool
is_super Super = true
is_super _ = false

-- whether a word can stand there
abbrev pub stands : Before → WordKind → Bool
stands b Bare = false
stands b Digits = false
stands b Name = true
stands Nothing w = true
stands Supers w = is_super w
stands Names w = false

abbrev pub after : WordKind → Before
after Own = Supers
after Super = Supers
after _ = Names

-- the place of a word that cannot stand there: its first byte; of a lone `_`, which could go on to a name, the byte after it
abbrev pub barred : WordKind → ℕ → ℕ
barred Bare n = n + 1
barred _ n = n

-- the place at which a word at n cannot go on by what follows it: a text does not end before a word
abbrev pub ended : WordKind → ℕ → Next → Option ℕ
ended w n Word = None
ended w n (Byte p) = Some p
ended Empty n End = Some n
ended w n End = None

abbrev pub halt : Before → Piece → Option ℕ
halt c s = cond (stands c (word_of s.text)) (ended (word_of s.text) s.place s.next) (Some (barred (word_of s.text) s.place))

-- the first place at which one of the segments halts, if one does
abbrev pub stop : Before → List Piece → Option ℕ
stop c [] = None
stop c (s ∷ ss) = option_or (halt c s) (stop (after (word_of s.text)) ss)

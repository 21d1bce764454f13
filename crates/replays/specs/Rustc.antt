-- What rustc says of a path, and when an answer agrees with it.
use Rattle.std.specs.Prelude.{◌≡◌, ℕ, ◌==◌, ◌&&◌, ◌<◌, ◌^◌, Bool, true, if◌then◌else◌, List, [], ◌∷◌, codes, decimal, Option, Some, None, MatchOption, MatchBool}
use Rattle.std.specs.Borrow.{Bor}
use Rattle.std.specs.List.{before_first, slice_split}
use Rattle.std.specs.Option.{option_map}
use Rattle.std.specs.Str.{bytes_eq}
use Rattle.replays.specs.declared.rustc.Defs.{Defs}
use Rattle.replays.specs.declared.rustc.Said.{Said}
use Rattle.replays.specs.declared.verdict.Verdict.{Verdict}
use Rattle.replays.specs.declared.verdict.Verdict.TheVariants.{Alike, Named, NotAsWritten}

-- a word of what rustc says, unless it is `*`
abbrev pub told_of : List ℕ → Option (List ℕ)
told_of w = if bytes_eq w (codes "*") then None else Some w

-- an entry's def, which stands before its first comma
abbrev pub def_of : List ℕ → List ℕ
def_of entry = before_first (λ b. b == 44) entry

abbrev pub HasDefs : List ℕ → List ℕ → List ℕ → Option Defs → Type 0
HasDefs t v m None = ⊥
HasDefs t v m (Some d) = (d.types.now ≡ t) × (d.values.now ≡ v) × (d.macros.now ≡ m)

-- the defs of an answer of these words: those of its entries where it has no index, else none; other words are no answer to a question
abbrev pub AreDefs : List (List ℕ) → Option Defs → Type 0
AreDefs (ask ∷ t ∷ v ∷ m ∷ status ∷ index ∷ flags ∷ []) o =
    MatchBool (bytes_eq ask (codes "ask"))
    (MatchBool (bytes_eq index (codes "-")) (HasDefs (def_of t) (def_of v) (def_of m) o) (HasDefs (codes "-") (codes "-") (codes "-") o))
    (o ≡ None)
AreDefs _ o = o ≡ None

-- what a line of these words says, under that name
abbrev pub HasWords : Option (List ℕ) → List (List ℕ) → Said → Type 0
HasWords name (line ∷ t ∷ v ∷ m ∷ []) s =
    (option_map (λ n. n.now) s.name ≡ name) × (s.line < 2 ^ 32) × (line ≡ decimal s.line) × (option_map (λ w. w.now) s.types ≡ told_of t)
    × (option_map (λ w. w.now) s.values ≡ told_of v) × (option_map (λ w. w.now) s.macros ≡ told_of m)
HasWords name _ s = ⊥

-- it says that, or there is nothing that it says
abbrev pub SaysIf : Option (List ℕ) → List ℕ → Option Said → Type 0
SaysIf name words o =
    let parts = slice_split (λ b. b == 32) words in MatchOption o ((s : Said) → ¬ HasWords name parts s) (HasWords name parts)

-- what a line of these parts says: its words, with a name before them or without
abbrev pub IsSaid : List (List ℕ) → Option Said → Type 0
IsSaid (words ∷ []) o = SaysIf None words o
IsSaid (name ∷ words ∷ []) o = SaysIf (Some name) words o
IsSaid _ o = o ≡ None

-- what is not told agrees with anything
abbrev pub agrees_at : Option (Bor (List ℕ)) → List ℕ → Bool
agrees_at (Some said) def = bytes_eq said.now def
agrees_at None def = true

abbrev pub agrees_of : Said → Defs → Bool
agrees_of s d = agrees_at s.types d.types.now && agrees_at s.values d.values.now && agrees_at s.macros d.macros.now

-- an answer is to agree where no difference is named, and else to disagree
abbrev pub said_or : Option (Bor (List ℕ)) → Bool → Verdict
said_or None agreed = if agreed then Alike else NotAsWritten
said_or (Some name) agreed = if agreed then NotAsWritten else Named name

abbrev pub beside : Said → Option Defs → Verdict
beside s None = NotAsWritten
beside s (Some d) = said_or s.name (agrees_of s d)

-- What a line stores, and what an answer is beside it.
use Rattle.std.specs.Prelude.{◌≡◌, ◌≢◌, ℕ, ◌&&◌, not, if◌then◌else◌, List, [], ◌∷◌, length, Option, Some, slice_get}
use Rattle.std.specs.Borrow.{Bor}
use Rattle.std.specs.Str.{bytes_eq}
use Rattle.replays.specs.declared.stored.Stored.{Stored}
use Rattle.replays.specs.declared.stored.Stored.TheVariants as stored
use Rattle.replays.specs.declared.verdict.Verdict.{Verdict}
use Rattle.replays.specs.declared.verdict.Verdict.TheVariants.{Alike, Named, NotAsWritten}

-- what a line of these parts stores
abbrev pub IsStored : List (List ℕ) → Stored → Type 0
IsStored parts (stored.Alike a) = parts ≡ a.now ∷ []
IsStored parts (stored.Apart p) = parts ≡ p.name.now ∷ p.rules.now ∷ p.rust.now ∷ []
IsStored parts stored.Neither = (length parts ≢ 1) × (length parts ≢ 3)

abbrev pub verdict_of : Stored → List ℕ → Verdict
verdict_of (stored.Alike a) answer = if bytes_eq a.now answer then Alike else NotAsWritten
verdict_of (stored.Apart p) answer =
    if bytes_eq p.rules.now answer && not (bytes_eq p.rules.now p.rust.now) then Named p.name else NotAsWritten
verdict_of stored.Neither answer = NotAsWritten

-- the same where a side may have nothing
abbrev pub verdict_if : Option Stored → Option (Bor (List ℕ)) → Verdict
verdict_if (Some s) (Some a) = verdict_of s a.now
verdict_if _ _ = NotAsWritten

-- at a place of both lists, counted from 0
abbrev pub verdict_at : List Stored → List (Bor (List ℕ)) → ℕ → Verdict
verdict_at lines answers k = verdict_if (slice_get lines k) (slice_get answers k)

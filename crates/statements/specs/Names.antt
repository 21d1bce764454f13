-- Full names: what stands before the last `::`, and the name after it.
use Rattle.std.specs.Prelude.{◌≡◌, ℕ, ◌+◌, List, [], ◌∷◌, length, drop, Some, None, Option, Result, MatchOption, MatchResult}
use Rattle.bstr.specs.Text.{SplitsOnce}
use Rattle.memchr.specs.Find as find
use Rattle.source_text.specs.declared.words.Word.{Word}
use Rattle.troubles.specs.declared.complaint.Complaint.{Complaint}

abbrev pub colons : List ℕ
colons = 58 ∷ 58 ∷ []

-- where the last `::` begins
abbrev pub last_colons : List ℕ → Option ℕ
last_colons text = find.first_of (find.rmatches text colons (length text))

-- the last `::` parts a full name; a word without one is refused
abbrev pub Parts : List ℕ → Result (Word × Word) Complaint → Type 0
Parts text r = MatchResult r (λ p. SplitsOnce text colons (last_colons text) (Some (p.0.text, p.1.text))) (λ _. last_colons text ≡ None)

-- the name after the last `::`, or the whole
abbrev pub LastName : List ℕ → List ℕ → Type 0
LastName text name = MatchOption (last_colons text) (name ≡ text) (λ k. name ≡ drop (k + 2) text)

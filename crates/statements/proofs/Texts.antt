-- The text of a word, or nothing where its bytes are no text; which words it is then not.
use Rattle.std.proofs.Common.{◌≡◌, ◌≢◌, ℕ, Bool, true, false, ltb, ◌&&◌, List, [], ◌∷◌, ◌⊎◌, inl, inr, IsUtf8, codes, Ok, Err, sym, subst, ◌∙◌, refl}
use Rattle.std.specs.Str.{IsAscii}
use Rattle.std.proofs.lemmas.Bool.{and_parts, ltb-true}
use Rattle.std.proofs.lemmas.Str.{IsUtf8-from_ascii}
use Rattle.std.proofs.lemmas.Str.Ascii.{IsAscii-nil, IsAscii-cons}
use Rattle.hir_def.specs.Editions.{edition_text, edition_of}
use Rattle.hir_def.specs.declared.edition.Edition.{Edition}
use Rattle.hir_def.specs.declared.edition.Edition.TheVariants.{Edition2015, Edition2018, Edition2021, Edition2024}
use Rattle.hir_def.specs.declared.edition.UnknownEdition.{UnknownEdition}

-- whether all bytes are below 128
abbrev pub is_plain : List ℕ → Bool
is_plain [] = true
is_plain (b ∷ bs) = ltb b 128 && is_plain bs

IsAscii-plain : (bs : List ℕ) → is_plain bs ≡ true → IsAscii bs
IsAscii-plain [] e = IsAscii-nil
IsAscii-plain (b ∷ bs) e =
    let p = and_parts (ltb b 128) (is_plain bs) e in IsAscii-cons b bs (ltb-true b 128 p.0) (IsAscii-plain bs p.1)

abbrev pub OrNothing : List ℕ → List ℕ → Type 0
OrNothing r t = (r ≡ t) ⊎ ((r ≡ []) × ¬ (IsUtf8 t))

-- a word of such bytes is its text
pub its_text : (r t : List ℕ) → OrNothing r t → (v : List ℕ) → is_plain v ≡ true → t ≡ v → r ≡ v
its_text r t (inl e) v plain h = e ∙ h
its_text r t (inr n) v plain h = absurd (n.1 (subst IsUtf8 (sym h) (IsUtf8-from_ascii v (IsAscii-plain v plain))))

abbrev pub has_bytes : List ℕ → Bool
has_bytes [] = false
has_bytes (b ∷ bs) = true

-- a text that is not nothing is the word
pub its_word : (r t : List ℕ) → OrNothing r t → (v : List ℕ) → has_bytes v ≡ true → r ≡ v → t ≡ v
its_word r t (inl e) v some h = sym e ∙ h
its_word r t (inr n) v some h =
    let k : false ≡ true = subst (λ (w : List ℕ). has_bytes w ≡ true) (sym h ∙ n.0) some in cc

-- what is no edition's text
module _ (r t : List ℕ) (u : UnknownEdition) (o : OrNothing r t) (unknown : edition_of r ≡ Err u) where
  at_text : (v : List ℕ) → is_plain v ≡ true → t ≡ v → edition_of v ≡ Err u
  at_text v plain h = subst (λ (w : List ℕ). edition_of w ≡ Err u) (its_text r t o v plain h) unknown

  pub no_edition : (e : Edition) → t ≢ edition_text e
  no_edition Edition2015 h = let k : Ok Edition2015 ≡ Err u = at_text (codes "2015") refl h in cc
  no_edition Edition2018 h = let k : Ok Edition2018 ≡ Err u = at_text (codes "2018") refl h in cc
  no_edition Edition2021 h = let k : Ok Edition2021 ≡ Err u = at_text (codes "2021") refl h in cc
  no_edition Edition2024 h = let k : Ok Edition2024 ≡ Err u = at_text (codes "2024") refl h in cc

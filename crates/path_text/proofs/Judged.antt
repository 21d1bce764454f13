-- The first line at fault: what the test of the lines finds, and what a list that fits is.
use Rattle.std.proofs.Common.{◌≡◌, ℕ, ◌+◌, ◌<◌, ◌≤◌, true, false, not, ◌||◌, ltb, leb, List, [], ◌∷◌, length, get_or, Some, None, sym, refl, ap, ◌∙◌, inl, inr, zero-add, arith, MatchOption}
use Rattle.std.proofs.lemmas.Slice.Eq.{bytes_eq-Decides}
use Rattle.std.proofs.lemmas.Option.{slice_get-get_or, slice_get_past, MatchOption-at_none, MatchOption-at_some}
use Rattle.std.proofs.lemmas.Bool.{cases_lt, cases_Bool, both_ways, and_parts, and_cases, or_cases, or_parts, ltb-true, ltb-false, leb-true, leb-false, eqb-true, eq-eqb, not-false}
use Rattle.std.specs.List.{slice_get}
use Rattle.std.specs.Str.{bytes_eq}
use Rattle.hir_def.specs.declared.fault.TextFault.TheVariants.{BadLine}
use Rattle.path_text.specs.Lists.{lines_of, unfinished, builtin_line, good_line, bad_from, bad_line, Fits, AtFault, too_many, not-built-in, half-done, no_name, no-built-in, Never, FirstAt, Misfit}
use Rattle.path_text.proofs.First.{Below, below-next, From, here, on, whole}

module _ (bs : List ℕ) (n : ℕ) where
  abbrev Bad : ℕ → Type 0
  Bad = AtFault bs n

  -- a finished line
  bad-line : (i : ℕ) (l : List ℕ) → slice_get (lines_of bs) i ≡ Some l → i < length (lines_of bs) → good_line n i l ≡ false → Bad i
  bad-line i l at h e =
      elim (and_cases (ltb i n) _ e) [
        | inl f ↦ too_many h (ltb-false i n f)
        | inr f ↦
            let g = or_parts (leb 19 i) _ f in
            not-built-in h (leb-false 19 i g.0) (λ s. let same : l ≡ builtin_line i = cc in both_ways _ g.1 ((bytes_eq-Decides l (builtin_line i)).1 same))
      ]

  good-line : (i : ℕ) (l : List ℕ) → slice_get (lines_of bs) i ≡ Some l → i < length (lines_of bs) → good_line n i l ≡ true → Bad i → ⊥
  good-line i l at h e (too_many g m) = let a : i < n = ltb-true i n (and_parts (ltb i n) _ e).0 in omega arith
  good-line i l at h e (not-built-in g m differs) =
      elim (or_cases (leb 19 i) _ (and_parts (ltb i n) _ e).1) [
        | inl f ↦ let a : 19 ≤ i = leb-true 19 i f in omega arith
        | inr f ↦ differs (at ∙ ap Some ((bytes_eq-Decides l (builtin_line i)).0 f))
      ]
  good-line i l at h e (half-done g w) = omega arith
  good-line i l at h e (no_name g w) = omega arith
  good-line i l at h e (no-built-in g w) = omega arith

  -- the line after the last one
  bad-end : (i : ℕ) → i ≡ length (lines_of bs) → (unfinished bs || (ltb i n || ltb i 19)) ≡ true → Bad i
  bad-end i z e =
      elim (or_cases (unfinished bs) _ e) [
        | inl f ↦ half-done z f
        | inr f ↦ elim (or_cases (ltb i n) _ f) [ inl g ↦ no_name z (ltb-true i n g) | inr g ↦ no-built-in z (ltb-true i 19 g) ]
      ]

  good-end : (i k : ℕ) → i ≡ length (lines_of bs) → i ≤ k → (unfinished bs || (ltb i n || ltb i 19)) ≡ false → Bad k → ⊥
  good-end i k z l e (too_many h w) = omega arith
  good-end i k z l e (not-built-in h w differs) = omega arith
  good-end i k z l e (half-done h f) = both_ways (unfinished bs) (or_parts (unfinished bs) _ e).0 f
  good-end i k z l e (no_name h f) = let a : n ≤ i = ltb-false i n (or_parts (ltb i n) _ (or_parts (unfinished bs) _ e).1).0 in omega arith
  good-end i k z l e (no-built-in h f) = let a : 19 ≤ i = ltb-false i 19 (or_parts (ltb i n) _ (or_parts (unfinished bs) _ e).1).1 in omega arith

  judge : (ls : List (List ℕ)) (i : ℕ) → From (lines_of bs) ls i → i + length ls ≡ length (lines_of bs) → Below Bad i → MatchOption (bad_from ls (unfinished bs) n i) (Never Bad) (FirstAt Bad)
  judge [] i f z b =
      elim (cases_Bool (unfinished bs || (ltb i n || ltb i 19))) [
        | inl e ↦ rw e (bad-end i (omega arith) e, b)
        | inr e ↦ rw e (λ k p. elim (cases_lt k i) [ inl l ↦ b k l p | inr l ↦ good-end i k (omega arith) l e p ])
      ]
  judge (l ∷ ls) i f z b =
      let at = here (lines_of bs) l ls i f in
      let h : i < length (lines_of bs) = omega arith in
      elim (cases_Bool (good_line n i l)) [
        | inl e ↦ rw e (judge ls (i + 1) (on (lines_of bs) l ls i f) (omega arith) (below-next Bad i b (good-line i l at h e)))
        | inr e ↦ rw e (bad-line i l at h e, b)
      ]

  judged : MatchOption (bad_line bs n) (Never Bad) (FirstAt Bad)
  judged = judge (lines_of bs) 0 (whole (lines_of bs)) (zero-add (length (lines_of bs))) (λ k h. absurd (omega arith))

  fits-of : Never (AtFault bs n) → Fits bs n
  fits-of never =
      let f : ℕ = length (lines_of bs) in
      let few : f ≤ n = elim (cases_lt n f) [ inl h ↦ absurd (never n (too_many h (omega arith))) | inr h ↦ h ] in
      let many : n ≤ f = elim (cases_lt f n) [ inl h ↦ absurd (never f (no_name refl h)) | inr h ↦ h ] in
      let enough : 19 ≤ f = elim (cases_lt f 19) [ inl h ↦ absurd (never f (no-built-in refl h)) | inr h ↦ h ] in
      record {
        count = omega arith;
        whole = elim (cases_Bool (unfinished bs)) [ inl e ↦ absurd (never f (half-done refl e)) | inr e ↦ eqb-true _ 10 (not-false _ e) ];
        built_in = λ i h.
            let there : i < f = omega arith in
            let told = slice_get-get_or (lines_of bs) i [] there in
            let same = bytes_eq-Decides (get_or (lines_of bs) i []) (builtin_line i) in
            elim (cases_Bool (bytes_eq (get_or (lines_of bs) i []) (builtin_line i))) [
              | inl e ↦ told ∙ ap Some (same.0 e)
              | inr e ↦
                  absurd (never i (not-built-in there h (λ s. let is : get_or (lines_of bs) i [] ≡ builtin_line i = cc in both_ways _ e (same.1 is))))
            ];
      }

  never-of : Fits bs n → (i : ℕ) → AtFault bs n i → ⊥
  never-of fit i (too_many h w) = let e = fit.count in omega arith
  never-of fit i (not-built-in h w differs) = differs (fit.built_in i w)
  never-of fit i (half-done h w) = both_ways _ (ap not (eq-eqb _ 10 fit.whole)) w
  never-of fit i (no_name h w) = let e = fit.count in omega arith
  never-of fit i (no-built-in h w) =
      let past : length (lines_of bs) ≤ i = omega arith in
      let told = sym (fit.built_in i w) ∙ slice_get_past (lines_of bs) i past in
      let z : ◌≡◌ {A = ℕ} 0 1 = cc in omega arith

  pub fits : bad_line bs n ≡ None → Fits bs n
  fits e = fits-of (MatchOption-at_none (Never (AtFault bs n)) (FirstAt (AtFault bs n)) e judged)

  pub misfit : (i : ℕ) → bad_line bs n ≡ Some i → Misfit bs n (BadLine i)
  misfit i e =
      let f = MatchOption-at_some (Never (AtFault bs n)) (FirstAt (AtFault bs n)) i e judged in
      record { first = (i, refl, f); unfit = λ fit. never-of fit i f.0 }

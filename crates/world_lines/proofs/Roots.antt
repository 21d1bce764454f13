-- The roots of crates, as one module more is told.
use Rattle.std.proofs.Common.{◌≡◌, ◌≢◌, ℕ, zero, suc, ◌+◌, ◌-◌, ◌^◌, ◌<◌, ◌&&◌, Bool, true, false, List, [], ◌∷◌, ◌++◌, length, get_or, refl, arith, ap, sym, subst, ◌∙◌, min, not, is_some, take, set}
use Rattle.std.proofs.lemmas.Grind.{common_steps}
use Rattle.std.proofs.lemmas.List.{take_more, length-take-le}
use Rattle.hir_def.specs.declared.edition.Edition.{Edition}
use Rattle.nameres.specs.declared.tree_rows.CrateRow.{CrateRow}
use Rattle.nameres.specs.declared.tree_rows.ModuleRow.{ModuleRow}
use Rattle.world_lines.specs.Crates.{tops, root_from, crates_from}

found : (k n : ℕ) (ms : List ModuleRow) (m : ModuleRow) → tops k m ≡ true → root_from k n ms ≡ 2 ^ 32 - 1 → root_from k n (ms ++ m ∷ []) ≡ min (n + length ms) (2 ^ 32 - 1)
found k n [] m t h = rw t (grind (arith, common_steps))
found k n (x ∷ ms) m t h = let r = found k (n + 1) ms m t in grind (arith, common_steps)

no_top : (k n : ℕ) (ms : List ModuleRow) (m : ModuleRow) → tops k m ≡ false → root_from k n (ms ++ m ∷ []) ≡ root_from k n ms
no_top k n [] m t = rw t refl
no_top k n (x ∷ ms) m t = let r = no_top k (n + 1) ms m t in grind (arith, common_steps)

kept : (k n : ℕ) (ms : List ModuleRow) (m : ModuleRow) → root_from k n ms ≢ 2 ^ 32 - 1 → root_from k n (ms ++ m ∷ []) ≡ root_from k n ms
kept k n [] m h = absurd (h refl)
kept k n (x ∷ ms) m h = let r = kept k (n + 1) ms m in grind (arith, common_steps)

abbrev pub top : ModuleRow → Bool
top m = not (is_some m.block) && not (is_some m.parent)

tops_of : (k : ℕ) (m : ModuleRow) → m.krate.0 ≡ k → top m ≡ true → tops k m ≡ true
tops_of k m e t = grind (arith, common_steps)

not_tops : (k : ℕ) (m : ModuleRow) → m.krate.0 ≢ k → tops k m ≡ false
not_tops k m h = grind (arith, common_steps)

of_tops : (k : ℕ) (m : ModuleRow) → tops k m ≡ true → (m.krate.0 ≡ k) × (top m ≡ true)
of_tops k m t = (grind (arith, common_steps), grind (arith, common_steps))

same_root : (k : ℕ) (ms : List ModuleRow) (m : ModuleRow) → (m.krate.0 ≡ k → top m ≡ true → root_from k 0 ms ≢ 2 ^ 32 - 1) → (b : Bool) → tops k m ≡ b → root_from k 0 (ms ++ m ∷ []) ≡ root_from k 0 ms
same_root k ms m h true t = let o = of_tops k m t in kept k 0 ms m (h o.0 o.1)
same_root k ms m h false t = no_top k 0 ms m t

pub length_crates : (k : ℕ) (es : List Edition) (ms : List ModuleRow) → length (crates_from k es ms) ≡ length es
length_crates k [] ms = refl
length_crates k (e ∷ es) ms = ap suc (length_crates (k + 1) es ms)

-- a module that is no crate's first
pub same : (k : ℕ) (es : List Edition) (ms : List ModuleRow) (m : ModuleRow) (d : CrateRow) → ((i : ℕ) → i < length es → m.krate.0 ≡ k + i → top m ≡ true → (get_or (crates_from k es ms) i d).root.0 ≢ 2 ^ 32 - 1) → crates_from k es (ms ++ m ∷ []) ≡ crates_from k es ms
same k [] ms m d h = refl
same k (e ∷ es) ms m d h =
    let r = same_root k ms m (λ q t. h 0 (omega arith) (omega (arith, q)) t) (tops k m) refl in
    let s = same (k + 1) es ms m d (λ i l q t. h (suc i) (omega arith) (omega (arith, q)) t) in rw (r, s) refl

-- a crate's first one
pub put : (k i : ℕ) (es : List Edition) (ms : List ModuleRow) (m : ModuleRow) (d : CrateRow) → i < length es → m.krate.0 ≡ k + i → top m ≡ true → (get_or (crates_from k es ms) i d).root.0 ≡ 2 ^ 32 - 1 → set (crates_from k es ms) i (record { root = record { 0 = min (length ms) (2 ^ 32 - 1) }; edition = (get_or (crates_from k es ms) i d).edition }) ≡ crates_from k es (ms ++ m ∷ [])
put k i [] ms m d l e t h = absurd (omega arith)
put k zero (x ∷ es) ms m d l e t h =
    let z : 0 + length ms ≡ length ms = omega arith in
    let r : root_from k 0 (ms ++ m ∷ []) ≡ min (length ms) (2 ^ 32 - 1) = found k 0 ms m (tops_of k m (omega (arith, e)) t) h ∙ ap (λ x. min x (2 ^ 32 - 1)) z in
    let s = same (k + 1) es ms m d (λ i l q t. omega (arith, q, e)) in rw (r, s) refl
put k (suc i) (x ∷ es) ms m d l e t h =
    let r = no_top k 0 ms m (not_tops k m (λ q. omega (arith, q, e))) in
    let s = put (k + 1) i es ms m d (omega arith) (omega (arith, e)) t h in rw (r, s) refl

unled : (k : ℕ) (es : List Edition) (e : Edition) → crates_from k (es ++ e ∷ []) [] ≡ crates_from k es [] ++ record { root = record { 0 = 2 ^ 32 - 1 }; edition = e } ∷ []
unled k [] e = refl
unled k (x ∷ es) e = rw (unled (k + 1) es e) refl

pub one_edition_more : (rows rows' : List CrateRow) (es : List Edition) (i : ℕ) (d : Edition) → i < length es → rows ≡ crates_from 0 (take i es) [] → rows' ≡ rows ++ record { root = record { 0 = 4294967295 }; edition = get_or es i d } ∷ [] → rows' ≡ crates_from 0 (take (i + 1) es) []
one_edition_more rows rows' es i d l h e = rw (e, h, take_more es i d l) (sym (unled 0 (take i es) (get_or es i d)))

-- one module more is the root of its crate
pub led : (rows rows' : List CrateRow) (es : List Edition) (ms : List ModuleRow) (n : ℕ) (b : ModuleRow) (d : CrateRow) → n < length ms → rows ≡ crates_from 0 es (take n ms) → top (get_or ms n b) ≡ true → (get_or ms n b).krate.0 < length rows → (get_or rows (get_or ms n b).krate.0 d).root.0 ≡ 2 ^ 32 - 1 → rows' ≡ set rows (get_or ms n b).krate.0 (record { root = record { 0 = min n (2 ^ 32 - 1) }; edition = (get_or rows (get_or ms n b).krate.0 d).edition }) → rows' ≡ crates_from 0 es (take (n + 1) ms)
led rows rows' es ms n b d l h t k r e =
    let before = take n ms in
    let m = get_or ms n b in
    let z : length before ≡ n = length-take-le n ms (omega (arith, l)) in
    let k' : m.krate.0 < length es = subst (λ x. m.krate.0 < x) (ap length h ∙ length_crates 0 es before) k in
    let r' : (get_or (crates_from 0 es before) m.krate.0 d).root.0 ≡ 2 ^ 32 - 1 = subst (λ x. (get_or x m.krate.0 d).root.0 ≡ 2 ^ 32 - 1) h r in
    let p = put 0 m.krate.0 es before m d k' (omega arith) t r' in
    rw (e, take_more ms n b l, ← p, h, z) refl

-- or is not
pub unled_by : (rows rows' : List CrateRow) (es : List Edition) (ms : List ModuleRow) (n : ℕ) (b : ModuleRow) (d : CrateRow) → n < length ms → rows ≡ crates_from 0 es (take n ms) → (top (get_or ms n b) ≡ true → (get_or ms n b).krate.0 < length rows → (get_or rows (get_or ms n b).krate.0 d).root.0 ≢ 2 ^ 32 - 1) → rows' ≡ rows → rows' ≡ crates_from 0 es (take (n + 1) ms)
unled_by rows rows' es ms n b d l h f e =
    let before = take n ms in
    let m = get_or ms n b in
    let g = subst (λ x. top m ≡ true → m.krate.0 < length x → (get_or x m.krate.0 d).root.0 ≢ 2 ^ 32 - 1) h f in
    let s = same 0 es before m d (λ i j q t.
    let q' : m.krate.0 ≡ i = omega (arith, q) in
    subst (λ x. (get_or (crates_from 0 es before) x d).root.0 ≢ 2 ^ 32 - 1) q' (g t (omega (arith, j, q, length_crates 0 es before)))) in
    rw (e, take_more ms n b l, s) h

-- Files are read and taken one after the other, up to the first that is not.
use Rattle.std.proofs.Common.{◌≡◌, ℕ, ◌+◌, ◌<◌, ◌≤◌, suc, List, [], ◌∷◌, ◌++◌, length, get_or, take, drop, vec_items, Result, Ok, Err, ap, ◌∙◌, sym, subst, inl, inr, append_assoc}
use Rattle.std.specs.Result.{IfErr}
use Rattle.std.specs.List.{All, AllZip}
use Rattle.std.proofs.Math.Seq.{drop-cons}
use Rattle.std.proofs.lemmas.List.{take_more, take_all, take-append-drop, map-append}
use Rattle.std.proofs.lemmas.List.Elements.{All-nil, All-cons, All-head, All-tail, All-take, All-push, All-get_or}
use Rattle.hir_def.specs.Faults.{IfRefused}
use Rattle.hir_def.specs.declared.fault.Failure.{Failure}
use Rattle.hir_def.specs.declared.fault.Failure.TheVariants as failure
use Rattle.troubles.specs.declared.trouble.Trouble.{Trouble}
use Rattle.firmware.specs.declared.survey.Survey.{Survey}
use Rattle.firmware.specs.Surveys.{Takes, WhyNot}
use Rattle.file_reader.specs.Reading.{RefusesFile}
use Rattle.model_reports.specs.declared.files.File.{File}
use Rattle.model_reports.specs.declared.files.ReadFile.{ReadFile}
use Rattle.model_reports.specs.declared.files.ReportError.{ReportError}
use Rattle.model_reports.specs.declared.files.ReportError.TheVariants.{Refused, Memory, Write}
use Rattle.model_reports.specs.Files.{TellsOf, IsRead, files_of, AreTaken, IsTaken, IsWhy, FirstRefused, AreNotTaken, IfNotTaken, OnceWriting}

-- those before an item, the item, and those after it
parted : {X : Type 0} (xs : List X) (i : ℕ) (x : X) → i < length xs → x ≡ get_or xs i x → xs ≡ take i xs ++ x ∷ drop (suc i) xs
parted {X} xs i x h e =
    sym (take-append-drop i xs) ∙ ap (λ (t : List X). take i xs ++ t) (drop-cons xs i x h ∙ ap (λ (y : X). y ∷ drop (suc i) xs) (sym e))

one_on : {X : Type 0} (xs : List X) (i : ℕ) (x : X) → i < length xs → x ≡ get_or xs i x → take (i + 1) xs ≡ take i xs ++ x ∷ []
one_on {X} xs i x h e = take_more xs i x h ∙ ap (λ (y : X). take i xs ++ y ∷ []) (sym e)

beside : {A B : Type 0} (R : A → B → Type 0) (xs : List A) (ys : List B) (x : A) (y : B) → AllZip R xs ys → R x y → AllZip R (xs ++ x ∷ []) (ys ++ y ∷ [])
beside R [] [] x y a r = (r, tt)
beside R [] (z ∷ ys) x y a r = absurd a
beside R (w ∷ xs) [] x y a r = absurd a
beside R (w ∷ xs) (z ∷ ys) x y a r = (a.0, beside R xs ys x y a.1 r)

-- one more is taken
pub one_taken : (rs : List ReadFile) (i : ℕ) (r : ReadFile) → i < length rs → r ≡ get_or rs i r → (ss next : List Survey) (s : Survey) → AreTaken (take i rs) ss → Takes r.firmware s → next ≡ ss ++ s ∷ [] → AreTaken (take (i + 1) rs) next
one_taken rs i r h e ss next s a t n =
    subst (AreTaken (take (i + 1) rs)) (sym n) (subst (λ (l : List ReadFile). AreTaken l (ss ++ s ∷ [])) (sym (one_on rs i r h e)) (beside (λ r s. Takes r.firmware s) (take i rs) ss r s a t))

pub each_taken : (rs : List ReadFile) (i : ℕ) (ss : List Survey) → length rs ≤ i → AreTaken (take i rs) ss → AreTaken rs ss
each_taken rs i ss h a = subst (λ (l : List ReadFile). AreTaken l ss) (take_all i rs h) a

-- one more is read
pub one_read : (fs : List File) (i : ℕ) (f : File) → i < length fs → f ≡ get_or fs i f → (rs next : List ReadFile) (r : ReadFile) → next ≡ rs ++ r ∷ [] → r.file.now ≡ f → files_of rs ≡ take i fs → files_of next ≡ take (i + 1) fs
one_read fs i f h e rs next r n q a =
    ap files_of n ∙ map-append (λ (r : ReadFile). r.file.now) rs (r ∷ []) ∙ ap (λ (l : List File). l ++ r.file.now ∷ []) a ∙ ap (λ (g : File). take i fs ++ g ∷ []) q ∙ sym (one_on fs i f h e)

pub read_again : (rs next : List ReadFile) (r : ReadFile) → next ≡ rs ++ r ∷ [] → All IsRead rs → IsRead r → All IsRead next
read_again rs next r n a h = subst (All IsRead) (sym n) (All-push IsRead rs r a h)

-- the files of what is read and taken are taken
pub files_taken : (rs : List ReadFile) (ss : List Survey) → All IsRead rs → AreTaken rs ss → All IsTaken (files_of rs)
files_taken [] ss h a = All-nil IsTaken
files_taken (r ∷ rs) [] h a = absurd a
files_taken (r ∷ rs) (s ∷ ss) h a =
    All-cons IsTaken r.file.now (files_of rs) (r.firmware, s, All-head IsRead r rs h, a.0) (files_taken rs ss (All-tail IsRead r rs h) a.1)

pub all_taken : (rs gs : List ReadFile) (fs : List File) (ss : List Survey) → gs ≡ rs → files_of rs ≡ fs → All IsRead rs → AreTaken gs ss → All IsTaken fs
all_taken rs gs fs ss e f h a = subst (All IsTaken) (ap files_of e ∙ f) (files_taken gs ss (subst (All IsRead) (sym e) h) a)

-- why they are not all taken
pub why_not : (rs gs : List ReadFile) (fs : List File) (x : ReportError) → gs ≡ rs → files_of rs ≡ fs → AreNotTaken (files_of gs) x → AreNotTaken fs x
why_not rs gs fs x e f h = subst (λ (l : List File). AreNotTaken l x) (ap files_of e ∙ f) h

-- a file after those that are taken, and what is told of it
told : (fs before after : List File) (f : File) → fs ≡ before ++ f ∷ after → All IsTaken before → (e : Failure Trouble) → IfRefused (IsWhy f) e → (x : ReportError) → TellsOf f e x → AreNotTaken fs x
told fs before after f p a (failure.Memory m) w x t = subst (AreNotTaken fs) (sym t) tt
told fs before after f p a (failure.Refused c) w (Refused l) t =
    record { before = before; file = f; after = after; parts = p; taken = a; path = t.0; text = t.1; why = subst (IsWhy f) (sym t.2) w }
told fs before after f p a (failure.Refused c) w (Memory m) t = absurd t
told fs before after f p a (failure.Refused c) w (Write m) t = absurd t

line_why : (f : File) (e : Failure Trouble) → IfRefused (RefusesFile (vec_items f.text)) e → IfRefused (IsWhy f) e
line_why f (failure.Memory m) h = tt
line_why f (failure.Refused t) h = inl h

rest_why : (r : ReadFile) (e : Failure Trouble) → IsRead r → WhyNot r.firmware e → IfRefused (IsWhy r.file.now) e
rest_why r (failure.Memory m) h w = tt
rest_why r (failure.Refused t) h w = inr (r.firmware, h, w)

-- a file that cannot be read, after those that are taken
pub not_read : (fs : List File) (i : ℕ) (f : File) → i < length fs → f ≡ get_or fs i f → (rs : List ReadFile) → files_of rs ≡ take i fs → All IsRead rs → (ss : List Survey) → AreTaken rs ss → (e : Failure Trouble) → IfRefused (RefusesFile (vec_items f.text)) e → (x : ReportError) → TellsOf f e x → AreNotTaken fs x
not_read fs i f h q rs a g ss s e w x t =
    told fs (files_of rs) (drop (suc i) fs) f (subst (λ (l : List File). fs ≡ l ++ f ∷ drop (suc i) fs) (sym a) (parted fs i f h q)) (files_taken rs ss g s) e (line_why f e w) x t

-- a file that is read, but not taken, after those that are
pub not_taken : (rs : List ReadFile) → All IsRead rs → (i : ℕ) (r : ReadFile) → i < length rs → r ≡ get_or rs i r → (ss : List Survey) → AreTaken (take i rs) ss → (e : Failure Trouble) → WhyNot r.firmware e → (x : ReportError) → TellsOf r.file.now e x → AreNotTaken (files_of rs) x
not_taken rs g i r h q ss s e w x t =
    let here : IsRead r = subst IsRead (sym q) (All-get_or IsRead rs i r h g) in
    told (files_of rs) (files_of (take i rs)) (files_of (drop (suc i) rs)) r.file.now
    (ap files_of (parted rs i r h q) ∙ map-append (λ (r : ReadFile). r.file.now) (take i rs) (r ∷ drop (suc i) rs))
    (files_taken (take i rs) ss (All-take IsRead i rs g) s) e (rest_why r e here w) x t

-- the first of some files is the first of those and more
pub of_more : (fs gs : List File) (i : ℕ) → gs ≡ take i fs → (x : ReportError) → AreNotTaken gs x → AreNotTaken fs x
of_more fs gs i e (Memory m) h = tt
of_more fs gs i e (Write m) h = absurd h
of_more fs gs i e (Refused l) h =
    record {
      before = h.before;
      file = h.file;
      after = h.after ++ drop i fs;
      parts = sym (take-append-drop i fs) ∙ ap (λ (t : List File). t ++ drop i fs) (sym e ∙ h.parts) ∙ append_assoc h.before (h.file ∷ h.after) (drop i fs);
      taken = h.taken;
      path = h.path;
      text = h.text;
      why = h.why;
    }

-- what was told is told on
pub told_on : {T : Type 0} (P : ReportError → Type 0) (r : Result T ReportError) (x : ReportError) → r ≡ Err x → P x → IfErr r P
told_on {T} P r x e h = subst (λ (q : Result T ReportError). IfErr q P) (sym e) h

pub once : {T : Type 0} (r : Result T ReportError) (P : Type 0) → P → OnceWriting r P
once (Ok x) P h = h
once (Err (Write e)) P h = h
once (Err (Refused l)) P h = tt
once (Err (Memory e)) P h = tt

never : (T : Type 0) (fs : List File) (P : Type 0) (x : ReportError) → AreNotTaken fs x → OnceWriting {T = T} (Err x) P
never T fs P (Refused l) h = tt
never T fs P (Memory e) h = tt
never T fs P (Write e) h = absurd h

-- files that are not taken are not written about
pub not_begun : {T : Type 0} (fs : List File) (P : Type 0) (r : Result T ReportError) (x : ReportError) → r ≡ Err x → AreNotTaken fs x → OnceWriting r P
not_begun {T} fs P r x e h = subst (λ (q : Result T ReportError). OnceWriting q P) (sym e) (never T fs P x h)

pub first_told : (fs : List File) (x : ReportError) → AreNotTaken fs x → IfNotTaken (FirstRefused fs) x
first_told fs (Refused l) h = h
first_told fs (Memory e) h = tt
first_told fs (Write e) h = tt

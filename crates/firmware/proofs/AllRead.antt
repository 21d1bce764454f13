-- One more path is read, or is the first bad one.
use Rattle.std.proofs.Common.{◌≡◌, ℕ, ◌+◌, ◌<◌, ◌≤◌, List, [], ◌∷◌, ◌++◌, length, get_or, take, vec_items, Ok, Err, Result, sym, subst}
use Rattle.std.specs.Global.{Vec}
use Rattle.std.proofs.lemmas.List.{take_more, take_all}
use Rattle.std.proofs.lemmas.Option.{slice_get-get_or}
use Rattle.path_text.specs.declared.mod_path.ModPath.{ModPath}
use Rattle.path_text.specs.Laws.{IsRead, Denies, IsReadable}
use Rattle.hir_def.specs.declared.fault.Failure.{Failure}
use Rattle.hir_def.specs.declared.fault.Failure.TheVariants.{Memory, Refused}
use Rattle.hir_def.specs.declared.fault.TextFault.{TextFault}
use Rattle.hir_def.specs.Faults.{IfRefused, OnMemory}
use Rattle.troubles.specs.declared.trouble.Trouble.{Trouble}
use Rattle.source_text.specs.declared.words.Word.{Word}
use Rattle.firmware.specs.Paths.{AllRead, FirstBad, Tells, WantsAt}

pub on_memory : {T R P : Type 0} (r : Result T (Failure R)) → P → OnMemory r P
on_memory (Ok x) p = tt
on_memory (Err (Memory e)) p = p
on_memory (Err (Refused f)) p = tt

module _ (ls : List (List ℕ)) where
  one_more : (ws : List Word) (ps : List ModPath) (w : Word) (p : ModPath) → AllRead ls ws ps → IsRead ls w.text.now p.kind (vec_items p.names) → AllRead ls (ws ++ w ∷ []) (ps ++ p ∷ [])
  one_more [] [] w p a r = (r, tt)
  one_more [] (q ∷ ps) w p a r = absurd a
  one_more (v ∷ ws) [] w p a r = absurd a
  one_more (v ∷ ws) (q ∷ ps) w p a r = (a.0, one_more ws ps w p a.1 r)

  pub read_more : (xs : List Word) (i : ℕ) (d : Word) → i < length xs → (ps next : List ModPath) (p : ModPath) → AllRead ls (take i xs) ps → IsRead ls (get_or xs i d).text.now p.kind (vec_items p.names) → next ≡ ps ++ p ∷ [] → AllRead ls (take (i + 1) xs) next
  read_more xs i d h ps next p a r e =
      subst (AllRead ls (take (i + 1) xs)) (sym e) (subst (λ (l : List Word). AllRead ls l (ps ++ p ∷ [])) (sym (take_more xs i d h)) (one_more (take i xs) ps (get_or xs i d) p a r))

  pub read_all : (xs : List Word) (i : ℕ) (ps : List ModPath) → length xs ≤ i → AllRead ls (take i xs) ps → AllRead ls xs ps
  read_all xs i ps h a = subst (λ (l : List Word). AllRead ls l ps) (take_all i xs h) a

  -- why a word was not read, and what is then told of all words
  pub first_bad : (xs : List Word) (i : ℕ) (d : Word) → i < length xs → (ps : List ModPath) → AllRead ls (take i xs) ps → (u : Failure TextFault) → IfRefused (Denies ls (get_or xs i d).text.now) u → (r : Failure Trouble) → Tells (get_or xs i d) u r → IfRefused (FirstBad ls xs) r
  first_bad xs i d h ps a (Memory e) n (Memory m) t = tt
  first_bad xs i d h ps a (Memory e) n (Refused c) t = absurd (cc)
  first_bad xs i d h ps a (Refused f) n (Memory m) t = absurd t
  first_bad xs i d h ps a (Refused f) n (Refused c) t =
      record { number = i; read = ps; before = a; word = get_or xs i d; here = slice_get-get_or xs i d h; fault = f; denied = n; tells = t }

  pub wants_at : (xs : List Word) (i : ℕ) (d : Word) → i < length xs → (ps : List ModPath) → AllRead ls (take i xs) ps → IsReadable ls (get_or xs i d).text.now → WantsAt ls xs
  wants_at xs i d h ps a r = record { number = i; read = ps; before = a; word = get_or xs i d; here = slice_get-get_or xs i d h; readable = r }

  -- where reading a word wanted memory, or it was refused
  pub wanted : (xs : List Word) (i : ℕ) (d : Word) → i < length xs → (ps : List ModPath) → AllRead ls (take i xs) ps → (u : Failure TextFault) → OnMemory {T = ModPath} (Err u) (IsReadable ls (get_or xs i d).text.now) → (r : Failure Trouble) → Tells (get_or xs i d) u r → OnMemory {T = Vec ModPath} (Err r) (WantsAt ls xs)
  wanted xs i d h ps a (Memory e) m (Memory x) t = wants_at xs i d h ps a m
  wanted xs i d h ps a (Memory e) m (Refused c) t = tt
  wanted xs i d h ps a (Refused f) m (Memory x) t = absurd t
  wanted xs i d h ps a (Refused f) m (Refused c) t = tt

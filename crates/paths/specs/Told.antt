-- What is written for people of a path that was read.
use Rattle.std.specs.Prelude.{ℕ, List, [], ◌∷◌, ◌++◌, Option, Some, None, codes, decimal, vec_items}
use Rattle.std.specs.List.{slice_get}
use Rattle.bstr.specs.Utf8.{lossy_chars}
use Rattle.std.specs.Str.{encode_utf8_all}
use Rattle.hir_def.specs.declared.Name.{Name}
use Rattle.path_text.specs.declared.mod_path.ModPath.{ModPath}
use Rattle.path_text.specs.declared.mod_path.PathKind.{PathKind}
use Rattle.path_text.specs.declared.mod_path.PathKind.TheVariants.{Super}
use Rattle.paths.specs.Shown.{kind_word}

-- bytes as text: what is no text shows as U+FFFD
abbrev pub as_text : List ℕ → List ℕ
as_text bytes = encode_utf8_all (lossy_chars bytes)

abbrev pub kind_told : PathKind → List ℕ
kind_told (Super n) = codes "super of level " ++ decimal n
kind_told k = kind_word k

abbrev name_and : Option (List ℕ) → List ℕ
name_and None = []
name_and (Some t) = as_text t ++ codes " "

-- a name's text, if the list has it, and its number
abbrev pub named : List (List ℕ) → Name → List ℕ
named ls n = name_and (slice_get ls n.0) ++ codes "#" ++ decimal n.0

abbrev pub each_named : List (List ℕ) → List Name → List ℕ
each_named ls [] = []
each_named ls (n ∷ ns) = codes ", " ++ named ls n ++ each_named ls ns

abbrev pub names_told : List (List ℕ) → List Name → List ℕ
names_told ls [] = []
names_told ls (n ∷ ns) = codes ": " ++ named ls n ++ each_named ls ns

abbrev pub path_told : List (List ℕ) → List ℕ → ModPath → List ℕ
path_told ls text p =
    codes "path " ++ as_text text ++ codes "\n    read as " ++ kind_told p.kind ++ names_told ls (vec_items p.names) ++ codes "\n"

-- What is written for a path.
use Rattle.std.specs.Prelude.{ℕ, List, [], ◌∷◌, ◌++◌, codes, decimal}
use Rattle.hir_def.specs.declared.Name.{Name}
use Rattle.path_text.specs.Laws.{level_of}
use Rattle.path_text.specs.declared.mod_path.PathKind.{PathKind}
use Rattle.path_text.specs.declared.mod_path.PathKind.TheVariants.{Plain, Super, Crate, Abs, DollarCrate}

abbrev pub kind_word : PathKind → List ℕ
kind_word Plain = codes "plain"
kind_word (Super n) = codes "super"
kind_word Crate = codes "crate"
kind_word Abs = codes "abs"
kind_word (DollarCrate c) = codes "dollar"

abbrev pub kind_text : PathKind → List ℕ
kind_text Plain = codes "plain"
kind_text (Super n) = codes "super:" ++ decimal n
kind_text Crate = codes "crate"
kind_text Abs = codes "abs"
kind_text (DollarCrate c) = codes "dollar:" ++ decimal c.0

-- each number with a text before it
abbrev pub each_after : List ℕ → List Name → List ℕ
each_after before [] = []
each_after before (n ∷ ns) = before ++ decimal n.0 ++ each_after before ns

abbrev pub dotted : List Name → List ℕ
dotted [] = codes "-"
dotted (n ∷ ns) = decimal n.0 ++ each_after (codes ".") ns

abbrev pub path_words : PathKind → List Name → List ℕ
path_words kind names = kind_text kind ++ codes " " ++ dotted names

abbrev pub path_line : PathKind → List Name → List ℕ
path_line kind names = codes "path " ++ kind_word kind ++ codes " " ++ decimal (level_of kind) ++ each_after (codes " ") names

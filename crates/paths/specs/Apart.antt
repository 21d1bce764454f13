-- Two paths that are written alike are one.
use Rattle.std.specs.Prelude.{◌≡◌, ◌<◌, ◌^◌, List}
use Rattle.std.specs.List.{AllByRecursion}
use Rattle.hir_def.specs.declared.Name.{Name}
use Rattle.path_text.specs.declared.mod_path.PathKind.{PathKind}
use Rattle.path_text.specs.declared.mod_path.PathKind.TheVariants.{Super, DollarCrate}
use Rattle.paths.specs.Shown.{path_words, path_line}

abbrev pub FitsKind : PathKind → Type 0
FitsKind (Super n) = n < 2 ^ 32
FitsKind (DollarCrate c) = c.0 < 2 ^ 32
FitsKind _ = Unit {0}

-- its numbers are ones that a program can tell
abbrev pub FitsPath : PathKind → List Name → Type 0
FitsPath kind names = FitsKind kind × AllByRecursion (λ n. n.0 < 2 ^ 32) names

-- no other path is written as this one, as two words
abbrev pub WordsApart : PathKind → List Name → Type 0
WordsApart kind names =
    FitsPath kind names → (k : PathKind) (ns : List Name) → FitsPath k ns → path_words k ns ≡ path_words kind names → (k ≡ kind) × (ns ≡ names)

-- a line does not tell the crate of `$crate`
abbrev pub IsPlainlyTold : PathKind → Type 0
IsPlainlyTold (DollarCrate c) = ⊥
IsPlainlyTold _ = Unit {0}

-- no other path is written as this one, as a line, unless one of them begins with `$crate`
abbrev pub LinesApart : PathKind → List Name → Type 0
LinesApart kind names =
    FitsPath kind names → IsPlainlyTold kind → (k : PathKind) (ns : List Name) → FitsPath k ns → IsPlainlyTold k → path_line k ns ≡ path_line kind names → (k ≡ kind) × (ns ≡ names)

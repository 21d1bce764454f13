-- What holds a place by name gives way only to its own import: the holders of each place after a run.
use Rattle.std.specs.Prelude.{List}
use Rattle.hir_def.specs.declared.ModuleId.{ModuleId}
use Rattle.hir_def.specs.declared.Name.{Name}
use Rattle.item_scope.specs.Holding.{KeepsNames}
use Rattle.item_scope.specs.Views.{View}
use Rattle.runs.specs.declared.calls.Call.{Call}
use Rattle.runs.specs.Runs.{taken}
use Rattle.runs.specs.Spaces.{Each}

-- of v, which was told before calls, and w, which is told after them: at each place what holds it by name gives way only to its own import
abbrev pub KeepsHolders : View → List Call → View → Type 0
KeepsHolders v cs w = Each (λ D M sp. (m : ModuleId) (n : Name) → KeepsNames sp.tests.glob (sp.places v m n) (taken sp m n cs) (sp.places w m n))

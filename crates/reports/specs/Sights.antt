-- What is known of who sees what has a visibility.
use Rattle.std.specs.Prelude.{◌≡◌, ℕ, Option, Some, Ok}
use Rattle.std.specs.HashMap.{get}
use Rattle.entries.specs.Viewers.{viewers_of}
use Rattle.entries.specs.contracts.visibility.VisibilityPartialEq.TheImpl.{eq-value as same_visibility}
use Rattle.entries.specs.declared.visibility.Visibility.{Visibility}
use Rattle.nameres.specs.Shapes.{Shape}
use Rattle.reports.specs.declared.sights.Sights.{Sights}
use Rattle.wording.specs.Counts.{SeenOf}
use Rattle.wording.specs.declared.seen.Seen.{Seen}

-- what is told of a visibility, if it came up
abbrev pub known : Sights → Visibility → Option Seen
known s vis = get same_visibility.it s.seen vis

-- that is who sees what has the visibility; modules are named up to so many
abbrev pub SeesBy : Shape → ℕ → Visibility → Seen → Type 0
SeesBy t most vis x = SeenOf t vis (viewers_of t vis) most (Ok x)

-- of each visibility that came up, it is
unfoldable pub AreSeen : Shape → Sights → Type 0
AreSeen t s = (vis : Visibility) (x : Seen) → known s vis ≡ Some x → SeesBy t s.most vis x

-- What is written of a place and of a refused delivery as JSON. The members are in the order of their names.
use Rattle.std.specs.Prelude.{ℕ, List, Some, None, Option, codes}
use Rattle.hir_def.specs.declared.Namespace.{Namespace}
use Rattle.hir_def.specs.declared.fault.FaultCode.{FaultCode}
use Rattle.hir_def.specs.FaultTexts.{layer_text}
use Rattle.firmware.specs.declared.file.DeliveryStatement.{DeliveryStatement}
use Rattle.serde_json.specs.Data.{Data, null, number, unsigned, string, object, member, no_members}
use Rattle.wording.specs.declared.holders.Holder.{Holder}
use Rattle.wording.specs.Places.{kind_word, namespace_word, by_word, told_text}
use Rattle.wording.specs.Shown.{visibility_text}

abbrev pub line_data : Option ℕ → Data
line_data None = null
line_data (Some n) = number (unsigned n)

abbrev pub place_data : List ℕ → List ℕ → List ℕ → List ℕ → List ℕ → List ℕ → List ℕ → Data → Data
place_data name m namespace def kind vis by line = object
    (member (codes "by") (string by)
    (member (codes "def") (string def)
    (member (codes "def_kind") (string kind)
    (member (codes "kind") (string (codes "place"))
    (member (codes "line") line
    (member (codes "module") (string m)
    (member (codes "name") (string name)
    (member (codes "namespace") (string namespace)
    (member (codes "visibility") (string vis) no_members)))))))))

-- a place of a name in a module, and what holds it
abbrev pub place_held : List (List ℕ) → List ℕ → List ℕ → Namespace → Holder → Data
place_held names name m s h =
    place_data name m (namespace_word s) (told_text h.told) (kind_word h.told.def) (visibility_text names h.vis) (by_word h.by_name) (line_data h.line)

-- why a delivery is refused, with a sentence beside the refusal
abbrev pub refused_delivery_data : DeliveryStatement → FaultCode → List ℕ → Data
refused_delivery_data d code why = object
    (member (codes "kind") (string (codes "refused-delivery"))
    (member (codes "layer") (string (layer_text code.layer))
    (member (codes "line") (number (unsigned d.line))
    (member (codes "module") (string d.«module».now)
    (member (codes "name") (string d.name.now)
    (member (codes "number") (number (unsigned code.number))
    (member (codes "place") (number (unsigned code.place))
    (member (codes "why") (string why) no_members))))))))

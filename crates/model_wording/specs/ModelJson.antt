-- What is written of a model as JSON. The members are in the order of their names.
use Rattle.std.specs.Prelude.{ℕ, Bool, true, false, List, Option, Some, None, codes, option_map}
use Rattle.std.specs.Borrow.{Bor}
use Rattle.std.specs.Str.Lossy.{utf8_lossy}
use Rattle.serde_json.specs.Data.{Data, null, boolean, number, unsigned, string, object, member, no_members}
use Rattle.serde_json.specs.View.{view}
use Rattle.cuts.specs.declared.verdict.Tally.{Tally}
use Rattle.firmware.specs.declared.definition.Definition.{Definition}
use Rattle.firmware.specs.declared.file.DeliveryStatement.{DeliveryStatement}
use Rattle.orders.specs.declared.order.Order.{Order}
use Rattle.wording.specs.declared.counts.DeliveryCounts.{DeliveryCounts}
use Rattle.wording.specs.declared.holders.Holder.{Holder}
use Rattle.wording.specs.declared.holders.Told.{Told}
use Rattle.report_json.specs.PlaceJson.{line_data}
use Rattle.wording.specs.Places.{by_word, kind_word, namespace_word, told_text}
use Rattle.model_wording.specs.declared.comparison.Comparison.{Comparison}
use Rattle.model_wording.specs.declared.comparison.Comparison.TheVariants.{Alone, Agree, Parted}
use Rattle.model_wording.specs.declared.model_json.PathSaid.{PathSaid}
use Rattle.model_wording.specs.declared.model_json.PathSaid.TheVariants.{Answer, Refusal}
use Rattle.model_wording.specs.declared.model_told.ModelAccount.{ModelAccount}
use Rattle.model_wording.specs.declared.reason_told.ReasonTold.{ReasonTold}
use Rattle.model_wording.specs.ItemTold.{line_of}
use Rattle.model_wording.specs.ModelTold.{order_word}
use Rattle.model_wording.specs.ReasonTold.{variant_name}

abbrev pub text_data : Option (Bor (List ℕ)) → Data
text_data None = null
text_data (Some t) = string t.now

abbrev pub model_data : List ℕ → Option (Bor (List ℕ)) → ℕ → Data
model_data name over depth = object
    (member (codes "depth") (number (unsigned depth))
    (member (codes "kind") (string (codes "model"))
    (member (codes "model") (string name)
    (member (codes "over") (text_data over) no_members))))

-- the place of a delivery, if there is one
abbrev pub place_data : Option DeliveryStatement → Data
place_data None = null
place_data (Some s) = object
    (member (codes "line") (number (unsigned s.line))
    (member (codes "module") (string s.«module».now)
    (member (codes "name") (string s.name.now) no_members)))

abbrev pub order_data : Option Order → Data
order_data None = null
order_data (Some o) = string (order_word o)

abbrev pub orders_object : List ℕ → Option Order → Bool → Option DeliveryStatement → Option DeliveryStatement → Data
orders_object model order agree differed parted = object
    (member (codes "agree") (boolean agree)
    (member (codes "differed") (place_data differed)
    (member (codes "kind") (string (codes "orders"))
    (member (codes "model") (string model)
    (member (codes "order") (order_data order)
    (member (codes "parted") (place_data parted) no_members))))))

abbrev pub orders_data : List ℕ → Comparison → Data
orders_data model Alone = orders_object model None true None None
orders_data model (Agree o d) = orders_object model (Some o) true d None
orders_data model (Parted o s) = orders_object model (Some o) false None s

abbrev pub path_data : List ℕ → Option ℕ → Data
path_data path line = object
    (member (codes "line") (line_data line)
    (member (codes "path") (string (utf8_lossy path)) no_members))

abbrev pub asked_object : List ℕ → List ℕ → Option ℕ → Data → Data → Data
asked_object model path line answer denied = object
    (member (codes "answer") answer
    (member (codes "kind") (string (codes "model-path"))
    (member (codes "line") (line_data line)
    (member (codes "model") (string model)
    (member (codes "path") (string path)
    (member (codes "refused") denied no_members))))))

-- a path that a model asks: its answer, or why it is not asked
abbrev pub asked_data : List ℕ → List ℕ → Option ℕ → PathSaid → Data
asked_data model path line (Answer v) = asked_object model path line (view v) null
asked_data model path line (Refusal v) = asked_object model path line null (view v)

abbrev pub item_data : Told → Data
item_data t = object
    (member (codes "def") (string (told_text t))
    (member (codes "def_kind") (string (kind_word t.def))
    (member (codes "line") (line_data (line_of t)) no_members)))

-- the namespace of an entry, the variant that it stands for, and the place that it came to
abbrev pub through_data : List ℕ → Option (Bor (List ℕ)) → Option Definition → Data
through_data namespace variant place = object
    (member (codes "module") (text_data (option_map (λ p. p.within) place))
    (member (codes "name") (text_data (option_map (λ p. p.name) place))
    (member (codes "namespace") (string namespace)
    (member (codes "variant") (text_data variant) no_members))))

abbrev pub by_data : Option Holder → Data
by_data None = null
by_data (Some h) = string (by_word h.by_name)

abbrev pub by_line : Option Holder → Data
by_line None = null
by_line (Some h) = line_data h.line

abbrev pub kept_object : List ℕ → Data → Data → Data → Data → Data → Data
kept_object model item path through by line = object
    (member (codes "by") by
    (member (codes "by_line") line
    (member (codes "item") item
    (member (codes "kind") (string (codes "kept"))
    (member (codes "model") (string model)
    (member (codes "path") path
    (member (codes "through") through no_members)))))))

abbrev pub kept_data : List ℕ → Told → ReasonTold → Data
kept_data model t r =
    kept_object model (item_data t) (path_data r.path.now r.line) (through_data (namespace_word r.namespace) (variant_name r.holder) r.place) (by_data r.holder) (by_line r.holder)

abbrev pub cut_data : List ℕ → Told → Data
cut_data model t = object
    (member (codes "def") (string (told_text t))
    (member (codes "def_kind") (string (kind_word t.def))
    (member (codes "kind") (string (codes "cut"))
    (member (codes "line") (line_data (line_of t))
    (member (codes "model") (string model) no_members)))))

abbrev pub paths_data : ℕ → ℕ → Data
paths_data asked denied = object
    (member (codes "asked") (number (unsigned asked))
    (member (codes "refused") (number (unsigned denied)) no_members))

abbrev pub tally_data : Tally → Data
tally_data t = object
    (member (codes "cut") (number (unsigned t.cut))
    (member (codes "kept") (number (unsigned t.kept)) no_members))

abbrev pub deliveries_data : DeliveryCounts → Data
deliveries_data d = object
    (member (codes "changed") (number (unsigned d.changed))
    (member (codes "refused") (number (unsigned d.refused))
    (member (codes "unchanged") (number (unsigned d.unchanged)) no_members)))

abbrev pub account_data : ModelAccount → Data
account_data a = object
    (member (codes "deliveries") (deliveries_data a.deliveries)
    (member (codes "items") (tally_data a.items)
    (member (codes "kind") (string (codes "model-account"))
    (member (codes "model") (string a.model.now)
    (member (codes "paths") (paths_data a.asked a.refused)
    (member (codes "places") (number (unsigned a.places)) no_members))))))

-- What a file tells after the steps that add a crate, a module, a block or a variant.
use Rattle.std.proofs.Common.{◌≡◌, ℕ, List, [], ◌∷◌, ◌++◌, refl, sym, subst}
use Rattle.std.proofs.lemmas.List.{append-nil}
use Rattle.file_reader.specs.Definitions.{Kept, define}
use Rattle.file_reader.specs.Adding.{Lists, with_module}
use Rattle.file_reader.specs.Told.{Declarations, DeliveryTold, Modules, Table, Told, with_row}
use Rattle.hir_def.specs.declared.Name.{Name}
use Rattle.index_tables.specs.declared.keys.EnumName.{EnumName}
use Rattle.item_scope.specs.declared.index_data.EnumVariant.{EnumVariant}
use Rattle.nameres.specs.declared.tree_rows.BlockRow.{BlockRow}
use Rattle.nameres.specs.declared.tree_rows.CrateRow.{CrateRow}
use Rattle.nameres.specs.declared.tree_rows.ModuleRow.{ModuleRow}
use Rattle.source_text.specs.declared.words.Word.{Word}
use Rattle.statements.specs.declared.kinds.ItemKind.{ItemKind}

-- a name that is listed stays so where the names stay
pub still_listed : (old mid new : Told) (w : List ℕ) (n : Name) → new.names ≡ mid.names → Lists old w n mid → Lists old w n new
still_listed old mid new w n e h = rw e h

-- what is told after a step, by what it tells itself
settled : (after : Told → Told) (a b : Told) → a ≡ b → b ≡ after b → a ≡ after a
settled after a b e h = subst (λ o. o ≡ after o) (sym e) h

module _ (t : Told) (m : List (List ℕ)) (w : Word) (row : ModuleRow) (d e : Kept) (k : Modules) where
  -- a name is listed, and a crate and its root are added
  pub crate_told : (a b : Told) (z : List CrateRow) (x : CrateRow)
      → a ≡ record t { names = m } → d ≡ e
      → b ≡ record (with_module a w row d) { above = k } → z ≡ b.crates ++ x ∷ []
      → record b { crates = z } ≡ record (with_module t w row e) { names = b.names; above = b.above; crates = t.crates ++ x ∷ [] }
  crate_told a b z x p q r s =
      let joined : record b { crates = z } ≡ record (with_module t w row e) { names = m; above = k; crates = t.crates ++ x ∷ [] } = cc in
      settled (λ o. record (with_module t w row e) { names = o.names; above = o.above; crates = t.crates ++ x ∷ [] }) _ _ joined refl

  -- a name is listed, and a block and its root are added
  pub block_told : (a b : Told) (z : List BlockRow) (x : BlockRow)
      → a ≡ record t { names = m } → d ≡ e
      → b ≡ record (with_module a w row d) { above = k } → z ≡ b.blocks ++ x ∷ []
      → record b { blocks = z } ≡ record (with_module t w row e) { names = b.names; above = b.above; blocks = t.blocks ++ x ∷ [] }
  block_told a b z x p q r s =
      let joined : record b { blocks = z } ≡ record (with_module t w row e) { names = m; above = k; blocks = t.blocks ++ x ∷ [] } = cc in
      settled (λ o. record (with_module t w row e) { names = o.names; above = o.above; blocks = t.blocks ++ x ∷ [] }) _ _ joined refl

  -- a name is listed, a module added and declared, and a delivery made
  pub inner_told : (a b c f : Told) (q : Declarations) (x y : DeliveryTold)
      → a ≡ record t { names = m } → d ≡ e
      → b ≡ record (with_module a w row d) { above = k }
      → c ≡ record b { declared = q }
      → f ≡ record c { delivered = c.delivered ++ x ∷ [] } → x ≡ y
      → f ≡ record (with_module t w row e) { names = f.names; above = f.above; declared = f.declared; delivered = t.delivered ++ y ∷ [] }
  inner_told a b c f q x y g h i j l n =
      let joined : f ≡ record (with_module t w row e) { names = m; above = k; declared = q; delivered = t.delivered ++ y ∷ [] } = cc in
      settled (λ o. record (with_module t w row e) { names = o.names; above = o.above; declared = o.declared; delivered = t.delivered ++ y ∷ [] }) _ _ joined refl

-- a name is listed, a variant defined and told, and declared
module _ (t : Told) (k : ItemKind) (key : EnumName) (w : Word) where
  pub variant_told : (a b d : Told) (m : List (List ℕ)) (q : Declarations) (x y : Kept) (v : Table EnumName EnumVariant) (row row' : EnumVariant)
      → a ≡ record t { names = m }
      → b ≡ record a { definitions = define a.definitions k x; styles = a.styles ++ [] } → x ≡ y
      → v ≡ with_row b.variants key row w → row ≡ row'
      → d ≡ record (record b { variants = v }) { declared = q }
      → d ≡ record t { names = d.names; declared = d.declared; definitions = define t.definitions k y; variants = with_row t.variants key row' w }
  variant_told a b d m q x y v row row' e f h i j l =
      let same : a.styles ++ [] ≡ a.styles = append-nil a.styles in
      let joined : d ≡ record t { names = m; declared = q; definitions = define t.definitions k y; variants = with_row t.variants key row' w } = cc in
      settled (λ o. record t { names = o.names; declared = o.declared; definitions = define t.definitions k y; variants = with_row t.variants key row' w }) _ _ joined refl

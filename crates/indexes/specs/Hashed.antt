-- What of a place's key is hashed.
use Rattle.std.specs.Prelude.{◌≡◌, ℕ, ◌+◌, ◌*◌, Bool, true, ◌&&◌, ◌==◌}
use Rattle.std.proofs.lemmas.Bool.{and_parts, eqb-true}
use Rattle.indexes.specs.declared.entry.PlaceKey.{PlaceKey}

-- the module and the name of a key as one number
abbrev pub number_of : PlaceKey → ℕ
number_of k = k.at.0 * 0x1_0000_0000 + k.name.0

-- keys of one module and name have one number
pub one_number : (same_space : Bool) (x y : PlaceKey) → (same_space && (x.at.0 == y.at.0 && x.name.0 == y.name.0)) ≡ true → number_of x ≡ number_of y
one_number same_space x y same =
    let rest = (and_parts same_space (x.at.0 == y.at.0 && x.name.0 == y.name.0) same).1 in
    let parts = and_parts (x.at.0 == y.at.0) (x.name.0 == y.name.0) rest in
    let at = eqb-true x.at.0 y.at.0 parts.0 in
    let name = eqb-true x.name.0 y.name.0 parts.1 in
    λ i. at i * 0x1_0000_0000 + name i

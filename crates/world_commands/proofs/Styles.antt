-- The styles that letters say.
use Rattle.std.proofs.Common.{◌≡◌, ℕ, Bool, true, false, List, codes, Some, refl}
use Rattle.std.specs.Str.{bytes_eq}
use Rattle.world_commands.specs.Words.{has, is_styles, styles_of}

pub letters : (w : List ℕ) (f a d : Bool) → bytes_eq w (codes "-") ≡ false → is_styles w ≡ true → f ≡ has 102 w → a ≡ has 97 w → d ≡ has 100 w → Some (record { fn_like = f; attr = a; derive = d }) ≡ styles_of w
letters w f a d h s e e' e'' = rw (h, s, e, e', e'') refl

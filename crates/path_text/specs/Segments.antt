-- The segments of a text: its words, each with its place and with what follows it.
use Rattle.std.specs.Prelude.{ℕ, ◌+◌, Bool, true, false, cond, ◌&&◌, List, [], ◌∷◌, length, Some, None, codes, Option, ◌==◌}
use Rattle.std.specs.Borrow.{Bor}
use Rattle.std.specs.Str.{bytes_eq}
use Rattle.path_text.specs.declared.segment.Next.{Next}
use Rattle.path_text.specs.declared.segment.Next.TheVariants.{Word, End, Byte}
use Rattle.path_text.specs.declared.segment.WordKind.{WordKind}
use Rattle.path_text.specs.declared.segment.WordKind.TheVariants.{Empty, Crate, Own, Super, Bare, Name, Digits}
use Rattle.path_text.specs.Bytes.{letter, inner}

-- a segment as it is told of a text
pub record Piece : Type 0 where
  pub text : List ℕ
  pub place : ℕ
  pub next : Next

abbrev pub piece : List ℕ → ℕ → Next → Piece
piece w n x = record { text = w; place = n; next = x }

-- what follows a word that ends at n, by the text after it
abbrev pub next_at : ℕ → List ℕ → Next
next_at n [] = End
next_at n (b ∷ []) = Byte (cond (b == 58) (n + 1) n)
next_at n (b ∷ d ∷ bs) = cond (b == 58) (cond (d == 58) Word (Byte (n + 1))) (Byte n)

-- one more byte, at n, before the first word
abbrev pub grown : ℕ → ℕ → List Piece → List Piece
grown b n [] = []
grown b n (s ∷ ss) = piece (b ∷ s.text) n s.next ∷ ss

-- the segments of a text whose first byte has place n: words go as far as their bytes go, and one more word follows `::`
abbrev pub segments : ℕ → List ℕ → List Piece
segments n [] = piece [] n End ∷ []
segments n (b ∷ []) = cond (inner b) (piece (b ∷ []) n End ∷ []) (piece [] n (next_at n (b ∷ [])) ∷ [])
segments n (b ∷ d ∷ bs) =
    cond (inner b) (grown b n (segments (n + 1) (d ∷ bs))) (piece [] n (next_at n (b ∷ d ∷ bs)) ∷ cond (b == 58 && d == 58) (segments (n + 2) bs) [])

-- how much of a text is still to come, and the segments of it
abbrev pub left_len : Option (Bor (List ℕ)) → ℕ
left_len None = 0
left_len (Some r) = length r.now

abbrev pub segments_from : Option (Bor (List ℕ)) → ℕ → List Piece
segments_from None n = []
segments_from (Some r) n = segments n r.now

-- what a word is to a path
abbrev pub word_of : List ℕ → WordKind
word_of [] = Empty
word_of (b ∷ w) =
    cond (bytes_eq (b ∷ w) (codes "crate")) Crate (cond (bytes_eq (b ∷ w) (codes "self")) Own (cond (bytes_eq (b ∷ w) (codes "super")) Super (cond (bytes_eq (b ∷ w) (codes "_")) Bare (cond (letter b) Name Digits))))

abbrev pub is_name : WordKind → Bool
is_name Name = true
is_name _ = false

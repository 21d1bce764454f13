-- What the words of a path tell, word by word.
use Rattle.std.specs.Prelude.{ℕ, ◌+◌, cond, List, [], ◌∷◌, ◌++◌, take, fold, Some, None, Ok, Option, Result}
use Rattle.std.specs.Option.{option_or}
use Rattle.hir_def.specs.declared.Name.{Name}
use Rattle.hir_def.specs.declared.fault.TextFault.{TextFault}
use Rattle.path_text.specs.declared.read.Gathered.{Gathered}
use Rattle.path_text.specs.Segments.{Piece, word_of, is_name, segments}
use Rattle.path_text.specs.Language.{is_super}
use Rattle.path_text.specs.Paths.{number_of, unlisted_in}
use Rattle.path_text.specs.Texts.{stop_of, unless_stopped}

abbrev pub nothing : Gathered
nothing = record { start = None; level = 0; names = 0; unlisted = None; numbers = [] }

-- one more number, of 64 at most
abbrev pub kept : List Name → Option Name → List Name
kept ns None = ns
kept ns (Some n) = take 64 (ns ++ n ∷ [])

-- a name gives its number, or else the place of the first name that has none
abbrev pub with_name : List (List ℕ) → Gathered → Piece → Gathered
with_name ls g s =
    record g { names = g.names + 1; unlisted = option_or g.unlisted (unlisted_in ls (s ∷ [])); numbers = kept g.numbers (number_of ls s) }

-- and with one more word, whose number is looked up if it is a name
abbrev pub with_segment : List (List ℕ) → Gathered → Piece → Gathered
with_segment ls g s =
    record {
      start = option_or g.start (Some (word_of s.text));
      level = cond (is_super (word_of s.text)) (g.level + 1) g.level;
      names = cond (is_name (word_of s.text)) (g.names + 1) g.names;
      unlisted = cond (is_name (word_of s.text)) (option_or g.unlisted (unlisted_in ls (s ∷ []))) g.unlisted;
      numbers = cond (is_name (word_of s.text)) (kept g.numbers (number_of ls s)) g.numbers;
    }

abbrev pub gathered_of : List (List ℕ) → List ℕ → Result Gathered TextFault
gathered_of ls text = unless_stopped (stop_of text) (Ok (fold (with_segment ls) nothing (segments 0 text)))

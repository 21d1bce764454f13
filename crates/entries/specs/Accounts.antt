-- How an account counts; it stops at the largest number of 64 bits.
use Rattle.std.specs.Prelude.{◌≡◌, ◌≤◌, ◌<◌, ℕ, ◌+◌, ◌-◌, ◌^◌, min}
use Rattle.entries.specs.declared.account.Account.{Account}

abbrev pub plus : ℕ → ℕ → ℕ
plus a b = min (a + b) (2 ^ 64 - 1)

abbrev pub blank : Account
blank = record { items = 0; seen = 0; hidden = 0; refused = 0 }

abbrev pub with_item : Account → ℕ → ℕ → Account
with_item a seen modules = record { items = plus a.items 1; seen = plus a.seen seen; hidden = plus a.hidden (modules - seen); refused = a.refused }

abbrev pub with_refused : Account → Account
with_refused a = record { items = plus a.items 1; seen = a.seen; hidden = a.hidden; refused = plus a.refused 1 }

-- where an item is seen from at most all modules and no count is at its limit, each module makes one pair, seen or not
abbrev pub CountsEach : Account → ℕ → ℕ → Account → Type 0
CountsEach old seen modules new =
    seen ≤ modules → old.seen + seen < 2 ^ 64 → old.hidden + (modules - seen) < 2 ^ 64 → new.seen + new.hidden ≡ old.seen + old.hidden + modules

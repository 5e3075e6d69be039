-- A caller whose call was answered, or cut off, is one still.
use Rattle.std.proofs.Common.{◌≡◌, ◌≢◌, ◌⊎◌, ⊎_elim, ℕ, ◌<◌, refl, sym, ap, ◌∙◌, subst}
use Rattle.std.specs.Prelude.{Option, Some, None}
use Rattle.index_core.specs.Indexes.{parties_of}
use Rattle.epochs.specs.Seats.{IsSeatOf, IsUnpinned, known_by}
use Rattle.pac_index.specs.declared.caller.Caller.{Caller}
use Rattle.pac_index.specs.declared.caller.CutCall.{CutCall}
use Rattle.pac_index.specs.declared.shared.Shared.{Shared}
use Rattle.pac_index.specs.Budgets.{Pays}
use Rattle.pac_index.specs.Callers.{IsAtRest, IsCallerOf, TellsCut, pairs, seen_by}
use Rattle.pac_index.specs.Kept.{IsLone, placed_by}

-- Its seats are those that it had, and it has given its pin back.
pub record IsSeated (s : Shared) (old new : Caller) : Type 0 where
  pub table : new.seat.table_id ≡ old.seat.table_id
  pub lone : IsLone new.seat.me
  pub number : new.number ≡ old.number
  pub pins : IsSeatOf s.epochs new.pins
  pub unpinned : IsUnpinned new.pins
  pub pinning : new.pins.party ≡ old.pins.party

pub seated_by : (s : Shared) (old new : Caller) → IsCallerOf s old → new.seat.table_id ≡ old.seat.table_id → IsLone new.seat.me → new.number ≡ old.number → IsSeatOf s.epochs new.pins × (new.pins.party ≡ old.pins.party) × ((known_by new.pins).pin ≡ (known_by old.pins).pin) → IsSeated s old new
seated_by s old new a table lone number pins = record { table = table; lone = lone; number = number; pins = pins.0; unpinned = pins.2 ∙ a.unpinned; pinning = pins.1 }

-- who is at rest tells of nothing
pub rests_tells : (c : Caller) → IsAtRest c → TellsCut c.cut (seen_by c).state
rests_tells c rests = subst (λ (o : Option CutCall). TellsCut o (seen_by c).state) (sym rests.2) rests.0

-- one that has placed nothing, and whose state is told
pub record HasNothingPlaced (old new : Caller) : Type 0 where
  pub kept : pairs new.kept.items ≡ pairs old.kept.items
  pub about : (seen_by new).about ≡ (seen_by old).about
  pub caller : (seen_by new).state.caller ≡ (seen_by old).state.caller
  pub own : placed_by (seen_by old).state.caller (seen_by new).seen ≡ placed_by (seen_by old).state.caller (seen_by old).seen

pub unplaced_caller : (s : Shared) (old new : Caller) → IsCallerOf s old → IsSeated s old new → HasNothingPlaced old new → TellsCut new.cut (seen_by new).state → IsAtRest new ⊎ (new.left ≡ Some 0) → IsCallerOf s new
unplaced_caller s old new a seated nothing tells rests =
    let own : placed_by old.number (seen_by new).seen ≡ placed_by old.number (seen_by old).seen = subst (λ (n : ℕ). placed_by n (seen_by new).seen ≡ placed_by n (seen_by old).seen) a.number nothing.own in
    record {
      table = seated.table ∙ a.table;
      lone = seated.lone;
      about = nothing.about ∙ a.about;
      rests = rests;
      tells = tells;
      number = nothing.caller ∙ a.number ∙ sym seated.number;
      within = subst (λ (n : ℕ). n < parties_of s.about.layout) (sym seated.number) a.within;
      kept = nothing.kept ∙ a.kept ∙ sym own ∙ ap (λ (n : ℕ). placed_by n (seen_by new).seen) (sym seated.number);
      pins = seated.pins;
      unpinned = seated.unpinned;
      pinning = seated.pinning ∙ a.pinning ∙ sym seated.number;
    }

-- who has a step left is at rest
pub has_step : (s : Shared) (c : Caller) → IsCallerOf s c → c.left ≢ Some 0 → IsAtRest c
has_step s c a left = ⊎_elim (λ (rests : IsAtRest c). rests) (λ (spent : c.left ≡ Some 0). absurd (left spent)) a.rests

pub unbounded_rests : (s : Shared) (c : Caller) → IsCallerOf s c → c.left ≡ None → IsAtRest c
unbounded_rests s c a none = has_step s c a (λ (spent : c.left ≡ Some 0). let no : ◌≡◌ {A = Option ℕ} None (Some 0) = sym none ∙ spent in cc)

-- and has none still
pub stays_unbounded : (a b : Option ℕ) (t u : ℕ) → Pays a b t u → a ≡ None → b ≡ None
stays_unbounded None None t u pays none = refl
stays_unbounded None (Some left) t u pays none = absurd pays
stays_unbounded (Some left) b t u pays none = absurd (cc)

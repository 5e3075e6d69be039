-- The last of a list of seats.
use Rattle.std.proofs.Common.{◌≡◌, ℕ, List, [], ◌∷◌, ◌++◌, length, refl, sym, subst}
use mathlib.Core.Option.{some}
use lib.ListN.{get_elem?}
use Rattle.epochs.proofs.Lists.{at_longer, at_last}
use Rattle.epochs.specs.declared.seat.EpochSeat.{EpochSeat}
use Rattle.epochs.specs.declared.shared.Epochs.{Epochs}
use Rattle.epochs.specs.Seats.{IsSeatOf, HasSeats, AreUnpinned, IsUnpinned}

-- the last seat, and those before it
pub record Popped (epochs : Epochs) (front : List EpochSeat) (seat : EpochSeat) : Type 0 where
  pub last : IsSeatOf epochs seat
  pub free : IsUnpinned seat
  pub number : seat.party ≡ length front
  pub rest : HasSeats epochs (length front) front
  pub unpinned : AreUnpinned front

pub popped : (epochs : Epochs) (n : ℕ) (front : List EpochSeat) (seat : EpochSeat) (all : List EpochSeat) → all ≡ front ++ seat ∷ [] → HasSeats epochs n all → AreUnpinned all → Popped epochs front seat
popped epochs n front seat all is has unpinned =
    let there = subst (λ (l : List EpochSeat). get_elem? l (length front) ≡ some seat) (sym is) (at_last front seat (length front) refl) in record {
      last = has.each (length front) seat there;
      free = unpinned (length front) seat there;
      number = has.numbers (length front) seat there;
      rest = record {
        count = refl;
        each = λ i d at. has.each i d (subst (λ (l : List EpochSeat). get_elem? l i ≡ some d) (sym is) (at_longer front (seat ∷ []) i d at));
        numbers = λ i d at. has.numbers i d (subst (λ (l : List EpochSeat). get_elem? l i ≡ some d) (sym is) (at_longer front (seat ∷ []) i d at));
      };
      unpinned = λ i d at. unpinned i d (subst (λ (l : List EpochSeat). get_elem? l i ≡ some d) (sym is) (at_longer front (seat ∷ []) i d at));
    }

-- Seats as they are made, and as they come back.
use Rattle.std.proofs.Common.{◌≡◌, ℕ, suc, ◌+◌, ◌-◌, ◌<◌, List, [], ◌∷◌, ◌++◌, sym, ap, ◌∙◌, subst, arith}
use Rattle.epochs.specs.declared.rule.PinMember.{PinMember}
use Rattle.epochs.specs.declared.seat.EpochSeat.{EpochSeat}
use Rattle.epochs.specs.declared.shared.Epochs.{Epochs}
use Rattle.epochs.specs.Kept.{party, new_member, new_members, first_of}
use Rattle.epochs.specs.Seats.{IsSettled, IsSeatOf, HasSeats, AreNew, known_by}
use Rattle.epochs.proofs.Lists.{each_end, numbered_more}

-- the next of the parties that are left
pub next_new : (from parties : ℕ) → from < parties → new_members from (parties - from) ≡ new_member from ∷ new_members (from + 1) (parties - (from + 1))
next_new from parties less = ap (new_members from) (let e : parties - from ≡ suc (parties - (from + 1)) = omega arith in e)

-- one seat more
pub handed : (epochs : Epochs) (n : ℕ) (seats : List EpochSeat) (seat : EpochSeat) → n < epochs.parties → HasSeats epochs n seats → AreNew seats → seat.seat.table_id ≡ epochs.table.shared.table_id
    → seat.seat.me ≡ (first_of (new_members n (epochs.parties - n)), []) → seat.party ≡ n → HasSeats epochs (n + 1) (seats ++ seat ∷ []) × AreNew (seats ++ seat ∷ [])
handed epochs n seats seat less has fresh table me number =
    let m : PinMember = new_member n in
    let is : seat.seat.me ≡ (m ∷ [], []) = me ∙ ap (λ (v : List PinMember). (first_of v, [])) (next_new n epochs.parties less) in
    let who : party seat.seat.me ≡ m = ap party is in
    let one : IsSeatOf epochs seat = record {
      steps = record {
        table = table;
        lone = is ∙ ap (λ (x : PinMember). (x ∷ [], [])) (sym who);
        number = ap (λ (x : PinMember). x.party) who ∙ sym number;
        within = omega arith;
      };
      settled = subst (λ (x : PinMember). IsSettled x.pin) (sym who) tt;
    } in
    (numbered_more (IsSeatOf epochs) (λ (d : EpochSeat). d.party) n seats seat has one number, each_end (λ j d. known_by d ≡ new_member j) seats seat fresh (who ∙ ap new_member (sym has.count)))

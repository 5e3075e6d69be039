-- Calls of a round in which the updater makes turns, or none.
use Rattle.std.proofs.Common.{◌≡◌, ◌≢◌, ℕ, suc, ◌+◌, ◌-◌, ◌*◌, ◌/◌, ◌%◌, ◌<◌, ◌≤◌, ◌⊎◌, inl, inr, ⊎_elim, List, [], ◌∷◌, drop, take, length, refl, sym, subst, ap, ◌∙◌, arith}
use Rattle.std.proofs.lemmas.Bool.{cases_eq}
use Rattle.std.proofs.Math.Nat.{div-add-mod, le-div_iff_mul-le, mod-eq_of_lt, mod-lt, div-mul-le_self, mul-le-mul_right}
use Rattle.std.proofs.lemmas.Nat.{div-mul-add, mod-mul-add}
use Rattle.cat_history.specs.Rounds.{IsAnswered, IsOnName}
use Rattle.cat_history.specs.declared.op.CallerOp.{CallerOp}
use Rattle.cat_history.specs.declared.record.Reply.{Reply}
use Rattle.stopped_rounds.specs.InTime.{RepliesInTime}

-- what one number more does to a quotient and a remainder
pub record NextIn (turns calls : ℕ) : Type 0 where
  pub small : calls % turns < turns
  pub is : ((calls % turns + 1 ≡ turns) × ((calls + 1) % turns ≡ 0) × ((calls + 1) / turns ≡ calls / turns + 1))
      ⊎ ((calls % turns + 1 < turns) × ((calls + 1) % turns ≡ calls % turns + 1) × ((calls + 1) / turns ≡ calls / turns))

pub next_in : (turns calls : ℕ) → 0 < turns → NextIn turns calls
next_in turns calls some = record {
  small = small;
  is = ⊎_elim
      (λ (last : calls % turns + 1 ≡ turns).
      let all : calls + 1 ≡ (calls / turns + 1) * turns + 0 = omega (arith, whole, last) in
      inl (last, ap (λ k. k % turns) all ∙ mod-mul-add (calls / turns + 1) turns 0 some, ap (λ k. k / turns) all ∙ div-mul-add (calls / turns + 1) turns 0 some))
      (λ (more : calls % turns + 1 ≢ turns).
      let below : calls % turns + 1 < turns = omega (arith, more, small) in
      let all : calls + 1 ≡ (calls / turns) * turns + (calls % turns + 1) = omega (arith, whole) in
      inr (below, ap (λ k. k % turns) all ∙ mod-mul-add (calls / turns) turns (calls % turns + 1) below, ap (λ k. k / turns) all ∙ div-mul-add (calls / turns) turns (calls % turns + 1) below))
      (cases_eq (calls % turns + 1) turns);
}
  where
    small : calls % turns < turns
    small = mod-lt calls some

    whole : turns * (calls / turns) + calls % turns ≡ calls
    whole = div-add-mod calls turns

-- The calls of a round behind the first so many, where the updater makes turns: there is room for them, those before the
-- next turn make none themselves, and the updater's budget is enough for the turns that are due from here on.
pub record InTurns (turns between events calls : ℕ) (ops : List CallerOp) (room turnless : List CallerOp → Type 0) (left : ℕ) : Type 0 where
  pub some : 0 < turns
  pub often : turns ≤ between
  pub paid : (length ops / turns) * events ≤ left + (calls / turns) * events
  pub has : room (drop calls ops)
  pub none : turnless (take (turns - calls % turns) (drop calls ops))

-- They make no turns themselves, and neither does the updater; or it makes turns.
abbrev pub Between : ℕ → ℕ → ℕ → ℕ → List CallerOp → (List CallerOp → Type 0) → (List CallerOp → Type 0) → ℕ → Type 0
Between turns between events calls ops room turnless left =
    (((turns ≡ 0) ⊎ (length ops < turns)) × turnless (drop calls ops)) ⊎ InTurns turns between events calls ops room turnless left

-- What one call, and the turn behind it, says of the calls behind it.
pub record Goes (most left left' : ℕ) (reply : Reply) (call : CallerOp) (turns between events calls : ℕ) (room room' room'' turnless turnless' turnless'' : List CallerOp → Type 0) (before after : ℕ) : Type 0 where
  pub replies : (a : CallerOp) (rest : List CallerOp) → a.op ≡ call.op → IsOnName a.op → 0 < left → turnless (a ∷ rest) → RepliesInTime most left reply left' (turnless' rest)
  pub rooms : (a : CallerOp) (rest : List CallerOp) → a.op ≡ call.op → IsOnName a.op → IsAnswered reply → room (a ∷ rest) → room' rest
  pub none : (turns ≡ 0) ⊎ ((calls + 1) % turns ≢ 0) → ((asked : List CallerOp) → turnless' asked → turnless'' asked) × ((asked : List CallerOp) → room' asked → room'' asked) × (after ≡ before)
  pub due : (more : List CallerOp) → 0 < left' → 0 < turns → (calls + 1) % turns ≡ 0 → turns ≤ between → 0 < length more → turnless' [] → room' more → events ≤ before → (before ≤ after + events) × turnless'' (take turns more) × room'' more

module _ (most left left' : ℕ) (reply : Reply) (call : CallerOp) (turns between events calls : ℕ) (room room' room'' turnless turnless' turnless'' : List CallerOp → Type 0) (before after : ℕ)
    (goes : Goes most left left' reply call turns between events calls room room' room'' turnless turnless' turnless'' before after)
    (ops : List CallerOp) (within : calls < length ops) (next : drop calls ops ≡ call ∷ drop (calls + 1) ops) (named : IsOnName call.op) (some_left : 0 < left) where
  abbrev behind : List CallerOp
  behind = drop (calls + 1) ops

  -- what comes behind the call, where that was answered
  abbrev Then : Type 0
  Then = 0 < left' → 0 < length behind → Between turns between events (calls + 1) ops room'' turnless'' after

  answered : (rest : List CallerOp) → turnless (call ∷ rest) → (IsAnswered reply → turnless' rest → Then) → RepliesInTime most left reply left' Then
  answered rest holds then = ⊎_elim
      (λ (told : IsAnswered reply × (left ≤ left' + most) × turnless' rest). inl (told.0, told.1, then told.0 told.2))
      (λ (little : left < most). inr little)
      (goes.replies call rest refl named some_left holds)

  -- no turn is due behind it, in the whole round
  without : (turns ≡ 0) ⊎ (length ops < turns) → turnless (drop calls ops) → RepliesInTime most left reply left' Then
  without never holds = answered behind (subst turnless next holds) (λ told holds'. λ rests more. inl (never, (goes.none (not_due more)).0 behind holds'))
    where
      not_due : 0 < length behind → (turns ≡ 0) ⊎ ((calls + 1) % turns ≢ 0)
      not_due more = ⊎_elim
          (λ (none : turns ≡ 0). inl none)
          (λ (few : length ops < turns).
          let small : (calls + 1) % turns ≡ calls + 1 = mod-eq_of_lt (omega (arith, within, few)) in
          inr (λ zero. omega (arith, small, zero)))
          never

  module _ (in_turns : InTurns turns between events calls ops room turnless before) where
    abbrev to_turn : List CallerOp
    to_turn = take (turns - (calls % turns + 1)) behind

    room_behind : IsAnswered reply → room' behind
    room_behind told = goes.rooms call behind refl named told (subst room next in_turns.has)

    -- it is the last call before a turn
    turn_next : IsAnswered reply → turnless' to_turn → (calls % turns + 1 ≡ turns) × ((calls + 1) % turns ≡ 0) × ((calls + 1) / turns ≡ calls / turns + 1) → Then
    turn_next told holds last = λ rests more.
        let whole : (calls / turns + 1) * turns ≤ calls + 1 = subst (λ k. k * turns ≤ calls + 1) last.2 (div-mul-le_self (calls + 1) turns) in
        let due : calls / turns + 1 ≤ length ops / turns = (le-div_iff_mul-le in_turns.some).1 (omega (arith, whole, within)) in
        let each = mul-le-mul_right events due in
        let paid = in_turns.paid in
        let none : turns - (calls % turns + 1) ≡ 0 = let is = last.0 in omega (arith, is) in
        let made = goes.due behind rests in_turns.some last.1 in_turns.often more (subst turnless' (ap (λ k. take k behind) none) holds) (room_behind told) (omega (arith, each, paid)) in
        let taken = made.0 in
        let again : turns ≡ turns - (calls + 1) % turns = let is = last.1 in omega (arith, is) in
        inr (record {
          some = in_turns.some;
          often = in_turns.often;
          paid = subst (λ k. (length ops / turns) * events ≤ after + k * events) (sym last.2) (omega (arith, paid, taken));
          has = made.2;
          none = subst (λ k. turnless'' (take k behind)) again made.1;
        })

    -- it has others behind it before the turn
    call_next : IsAnswered reply → turnless' to_turn → (calls % turns + 1 < turns) × ((calls + 1) % turns ≡ calls % turns + 1) × ((calls + 1) / turns ≡ calls / turns) → Then
    call_next told holds going = λ rests more.
        let still = goes.none (inr (λ zero. let is = going.1 in omega (arith, is, zero))) in
        inr (record {
          some = in_turns.some;
          often = in_turns.often;
          paid = subst (λ (q : ℕ × ℕ). (length ops / turns) * events ≤ q.0 + q.1 * events) (λ k. (sym still.2 k, sym going.2 k)) in_turns.paid;
          has = still.1 behind (room_behind told);
          none = subst (λ k. turnless'' (take (turns - k) behind)) (sym going.1) (still.0 to_turn holds);
        })

    with_turns : RepliesInTime most left reply left' Then
    with_turns =
        let small = mod-lt calls in_turns.some in
        let one : turns - calls % turns ≡ suc (turns - (calls % turns + 1)) = omega (arith, small) in
        answered to_turn (subst turnless ((λ k. take (one k) (next k))) in_turns.none)
        (λ told holds. ⊎_elim (turn_next told holds) (call_next told holds) (next_in turns calls in_turns.some).is)

  -- the next call, and what comes behind it
  pub between-next : Between turns between events calls ops room turnless before → RepliesInTime most left reply left' Then
  between-next = ⊎_elim
      (λ (never : ((turns ≡ 0) ⊎ (length ops < turns)) × turnless (drop calls ops)). without never.0 never.1)
      (λ (in_turns : InTurns turns between events calls ops room turnless before). with_turns in_turns)

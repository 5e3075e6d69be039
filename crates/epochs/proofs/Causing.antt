-- The steps of a call have one answer.
use Rattle.std.proofs.Common.{◌≡◌, ℕ, ◌+◌, ◌<◌, List, [], ◌∷◌, ◌++◌, length, Ok, Err, refl, sym, ap, ◌∙◌, arith}
use Rattle.std.proofs.lemmas.List.{length-append}
use Rattle.epochs.specs.declared.rule.Made.{Made}
use Rattle.epochs.specs.declared.rule.Made.TheVariants.{EpochLoad, PinStore, PinClear, PinLoad, EpochExchange}
use Rattle.epochs.specs.declared.rule.PinMember.{PinMember}
use Rattle.epochs.specs.declared.answers.Advance.{Advance}
use Rattle.epochs.specs.declared.answers.Advance.TheVariants.{Held, Moved, AtLast}
use Rattle.epochs.specs.Kept.{last_epoch}
use Rattle.epochs.specs.Answers.{loads_of, HasAdvanced, IsRefused}
use Rattle.epochs.specs.Causes.{PinsHaveOneAnswer, AdvancesHaveOneAnswer}
use Rattle.epochs.proofs.Scanning.{loads_more}

-- behind the same steps
head_is : (x y : Made) (xs ys : List Made) → x ∷ xs ≡ y ∷ ys → x ≡ y
head_is x y xs ys is = cc

tail_is : (x y : Made) (xs ys : List Made) → x ∷ xs ≡ y ∷ ys → xs ≡ ys
tail_is x y xs ys is = cc

behind : (l xs ys : List Made) → l ++ xs ≡ l ++ ys → xs ≡ ys
behind [] xs ys is = is
behind (z ∷ l) xs ys is = behind l xs ys (tail_is z z (l ++ xs) (l ++ ys) is)

steps_are : (m old xs ys : List Made) → m ≡ old ++ xs → m ≡ old ++ ys → xs ≡ ys
steps_are m old xs ys one other = behind old xs ys (sym one ∙ other)

last_is : (xs ys : List Made) (x y : Made) → length xs ≡ length ys → xs ++ x ∷ [] ≡ ys ++ y ∷ [] → x ≡ y
last_is [] [] x y long is = head_is x y [] [] is
last_is [] (b ∷ ys) x y long is = absurd (omega arith)
last_is (a ∷ xs) [] x y long is = absurd (omega arith)
last_is (a ∷ xs) (b ∷ ys) x y long is = last_is xs ys x y (omega arith) (tail_is a b (xs ++ x ∷ []) (ys ++ y ∷ []) is)

-- what a step tells
abbrev loaded : Made → ℕ
loaded (EpochLoad found) = found
loaded (PinStore number) = 0
loaded PinClear = 0
loaded (PinLoad party found) = found
loaded (EpochExchange old new found) = found

loads_length : (party : ℕ) (pins : List ℕ) → length (loads_of party pins) ≡ length pins
loads_length party [] = refl
loads_length party (pin ∷ pins) = let rest = loads_length (party + 1) pins in omega arith

three_or_four : ◌≡◌ {A = ℕ} 3 4 → ⊥
three_or_four e = omega arith

pub pins_have_one_answer : PinsHaveOneAnswer
pins_have_one_answer old new (Ok pin) (Ok other) one two =
    let same = steps_are new.made old.made _ _ one.steps.made two.steps.made in
    let number : pin.number ≡ other.number = ap loaded (head_is _ _ _ _ same) in
    let party : pin.party ≡ other.party = one.party ∙ sym two.party in
    λ k. Ok (record { number = number k; party = party k })
pins_have_one_answer old new (Ok pin) (Err moved) one two = absurd (three_or_four (ap length (steps_are new.made old.made _ _ one.steps.made two.steps.made)))
pins_have_one_answer old new (Err moved) (Ok pin) one two = absurd (three_or_four (ap length (steps_are new.made old.made _ _ two.steps.made one.steps.made)))
pins_have_one_answer old new (Err moved) (Err other) one two =
    let same = steps_are new.made old.made _ _ one.steps.made two.steps.made in
    let first : moved.first ≡ other.first = ap loaded (head_is _ _ _ _ same) in
    let second : moved.second ≡ other.second = ap loaded (head_is _ _ _ _ (tail_is _ _ _ _ (tail_is _ _ _ _ same))) in
    λ k. Err (record { first = first k; second = second k })

-- the epoch that was loaded, and what is behind it
same_epoch : (old new : PinMember) (a b : ℕ) (xs ys : List Made) → new.made ≡ old.made ++ EpochLoad a ∷ xs → new.made ≡ old.made ++ EpochLoad b ∷ ys → a ≡ b
same_epoch old new a b xs ys one two = ap loaded (head_is (EpochLoad a) (EpochLoad b) xs ys (steps_are new.made old.made (EpochLoad a ∷ xs) (EpochLoad b ∷ ys) one two))

same_rest : (old new : PinMember) (a b : ℕ) (xs ys : List Made) → new.made ≡ old.made ++ EpochLoad a ∷ xs → new.made ≡ old.made ++ EpochLoad b ∷ ys → xs ≡ ys
same_rest old new a b xs ys one two = tail_is (EpochLoad a) (EpochLoad b) xs ys (steps_are new.made old.made (EpochLoad a ∷ xs) (EpochLoad b ∷ ys) one two)

whole_length : (pins : List ℕ) (step : Made) (parties : ℕ) → length pins ≡ parties → length (loads_of 0 pins ++ step ∷ []) ≡ parties + 1
whole_length pins step parties every = let long = length-append (loads_of 0 pins) (step ∷ []) in let loads = loads_length 0 pins in omega arith

held_length : (pins : List ℕ) (pin party : ℕ) → length pins ≡ party → length (loads_of 0 (pins ++ pin ∷ [])) ≡ party + 1
held_length pins pin party before = let loads = loads_length 0 (pins ++ pin ∷ []) in let long = length-append pins (pin ∷ []) in omega arith

module _ (parties : ℕ) (old new : PinMember) where
  -- whole scans end with the same exchange
  same_exchange : (a b x y : ℕ) (xs ys : List ℕ) → length xs ≡ parties → length ys ≡ parties
      → new.made ≡ old.made ++ EpochLoad a ∷ (loads_of 0 xs ++ EpochExchange a (a + 1) x ∷ []) → new.made ≡ old.made ++ EpochLoad b ∷ (loads_of 0 ys ++ EpochExchange b (b + 1) y ∷ []) → x ≡ y
  same_exchange a b x y xs ys long other one two =
      let rest = same_rest old new a b _ _ one two in
      let len : length (loads_of 0 xs) ≡ length (loads_of 0 ys) = loads_length 0 xs ∙ long ∙ sym other ∙ sym (loads_length 0 ys) in
      ap loaded (last_is (loads_of 0 xs) (loads_of 0 ys) (EpochExchange a (a + 1) x) (EpochExchange b (b + 1) y) len rest)

  -- a whole scan isn't one that was held
  whole_or_held : (a b pin party : ℕ) (xs ys : List ℕ) (step : Made) → length xs ≡ parties → length ys ≡ party → party < parties
      → new.made ≡ old.made ++ EpochLoad a ∷ (loads_of 0 xs ++ step ∷ []) → new.made ≡ old.made ++ EpochLoad b ∷ loads_of 0 (ys ++ pin ∷ []) → ⊥
  whole_or_held a b pin party xs ys step every before less one two =
      let same = ap length (same_rest old new a b _ _ one two) in
      let whole = whole_length xs step parties every in
      let held = held_length ys pin party before in
      omega arith

  -- nor is either the one load of the last epoch
  some_or_none : (a b : ℕ) (rest : List Made) (n : ℕ) → length rest ≡ n + 1 → new.made ≡ old.made ++ EpochLoad a ∷ rest → new.made ≡ old.made ++ EpochLoad b ∷ [] → ⊥
  some_or_none a b rest n long one two = let same = ap length (same_rest old new a b rest [] one two) in omega arith

  both_advanced : (m n : ℕ) → HasAdvanced parties old new m → HasAdvanced parties old new n → m ≡ n
  both_advanced m n one two = let e = same_epoch old new one.epoch two.epoch _ _ one.steps.made two.steps.made in let a = one.number_is in let b = two.number_is in omega arith

  not_both : (n : ℕ) (why : Advance) → HasAdvanced parties old new n → IsRefused parties old new why → ⊥
  not_both n (Held party pin) one two = whole_or_held one.epoch two.epoch pin party one.pins two.pins _ one.every two.before two.within one.steps.made two.steps.made
  not_both n (Moved first second) one two =
      let e = same_epoch old new one.epoch first _ _ one.steps.made two.steps.made in
      let found = same_exchange one.epoch first one.epoch second one.pins two.pins one.every two.every one.steps.made two.steps.made in
      two.apart (sym e ∙ found)
  not_both n AtLast one two = some_or_none one.epoch last_epoch _ parties (whole_length one.pins _ parties one.every) one.steps.made two.made

  both_refused : (why other : Advance) → IsRefused parties old new why → IsRefused parties old new other → why ≡ other
  both_refused (Held party pin) (Held p x) one two =
      let rest = same_rest old new one.epoch two.epoch _ _ one.steps.made two.steps.made in
      let len = ap length rest in
      let a = held_length one.pins pin party one.before in
      let b = held_length two.pins x p two.before in
      let party_is : party ≡ p = omega arith in
      let loads : length (loads_of 0 one.pins) ≡ length (loads_of 0 two.pins) = loads_length 0 one.pins ∙ one.before ∙ party_is ∙ sym two.before ∙ sym (loads_length 0 two.pins) in
      let pin_is : pin ≡ x = ap loaded (last_is (loads_of 0 one.pins) (loads_of 0 two.pins) (PinLoad (0 + length one.pins) pin) (PinLoad (0 + length two.pins) x) loads (sym (loads_more 0 one.pins pin) ∙ rest ∙ loads_more 0 two.pins x)) in
      λ k. Held (party_is k) (pin_is k)
  both_refused (Held party pin) (Moved first second) one two = absurd (whole_or_held first one.epoch pin party two.pins one.pins _ two.every one.before one.within two.steps.made one.steps.made)
  both_refused (Held party pin) AtLast one two = absurd (some_or_none one.epoch last_epoch _ party (held_length one.pins pin party one.before) one.steps.made two.made)
  both_refused (Moved first second) (Held party pin) one two = absurd (whole_or_held first two.epoch pin party one.pins two.pins _ one.every two.before two.within one.steps.made two.steps.made)
  both_refused (Moved first second) (Moved a b) one two =
      let first_is = same_epoch old new first a _ _ one.steps.made two.steps.made in
      let second_is = same_exchange first a second b one.pins two.pins one.every two.every one.steps.made two.steps.made in
      λ k. Moved (first_is k) (second_is k)
  both_refused (Moved first second) AtLast one two = absurd (some_or_none first last_epoch _ parties (whole_length one.pins _ parties one.every) one.steps.made two.made)
  both_refused AtLast (Held party pin) one two = absurd (some_or_none two.epoch last_epoch _ party (held_length two.pins pin party two.before) two.steps.made one.made)
  both_refused AtLast (Moved first second) one two = absurd (some_or_none first last_epoch _ parties (whole_length two.pins _ parties two.every) two.steps.made one.made)
  both_refused AtLast AtLast one two = refl

pub advances_have_one_answer : AdvancesHaveOneAnswer
advances_have_one_answer parties old new (Ok m) (Ok n) one two = ap Ok (both_advanced parties old new m n one two)
advances_have_one_answer parties old new (Ok m) (Err why) one two = absurd (not_both parties old new m why one two)
advances_have_one_answer parties old new (Err why) (Ok m) one two = absurd (not_both parties old new m why two one)
advances_have_one_answer parties old new (Err why) (Err other) one two = ap Err (both_refused parties old new why other one two)

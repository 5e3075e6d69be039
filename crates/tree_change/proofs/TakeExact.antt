-- Taking ends whatever it is told, and takes exactly the first that has no mark.
use Rattle.std.proofs.Common.{◌≡◌, ◌≢◌, ℕ, ◌+◌, ◌-◌, ◌*◌, ◌^◌, ◌<◌, ◌≤◌, ◌==◌, true, false, cond, ltb, inl, inr, refl, sym, subst, ap, ap₂, ◌∙◌, arith}
use Rattle.std.proofs.lemmas.Bool.{ne_eqb, cases_eq, eqb-true, eqb-false, ltb-true, ltb-false}
use Rattle.std.specs.Prelude.{IsSomeAnd}
use Rattle.pm_words.specs.declared.layout.Layout.{Layout}
use Rattle.pm_words.specs.declared.machine.Turn.{Turn}
use Rattle.pm_words.specs.declared.machine.Turn.TheVariants.{Go, Done}
use Rattle.pm_words.specs.Locations.{leaf_count}
use Rattle.pm_words.specs.Codes.{leaf_kind}
use Rattle.tree_law.specs.Trees.{Nothing, Leaf, Cell, IsReached}
use Rattle.tree_law.specs.Words.{kind_of, number_of, reference_of, tree_of, LeafPart, CellPart, part_reference}
use Rattle.tree_law.specs.Stages.{Marks}
use Rattle.tree_law.specs.Marking.{IsMarkSet}
use Rattle.tree_law.proofs.StageLaw.{some_is_free}
use Rattle.tree_law.proofs.WordLaw.{part_reached}
use Rattle.tree_change.specs.declared.take.Take.{Take}
use Rattle.tree_change.specs.declared.take.TakeAt.{TakeAt}
use Rattle.tree_change.specs.declared.take.TakeAt.TheVariants as at
use Rattle.tree_change.specs.declared.take.Taken.{Taken}
use Rattle.tree_change.specs.declared.take.Taken.TheVariants.{Absent}
use Rattle.tree_floor.specs.Telling.{answer_in}
use Rattle.tree_change.specs.Takes.{take_seeks, take_turned, take_at_turned, take_left, take_at_left, take_most, take_starts, take_turn, IsTake, IsTakeAt, TakeAfter, TakeStays, TakesBy, TakeMarks, IsTaken, TakeIsExact, TakenIsUnreached, UnreachedStays, SomeIsTaken, TakeSets, FreeSets, part_of}
use Rattle.tree_floor.proofs.Telling.{GoesOn, answers_right}

module _ (take : Take) (is : IsTake take) where
  abbrev all : ℕ
  all = leaf_count take.layout

  moves : (part : TakeAt) (left : ℕ) → IsTakeAt take.layout part → take_at_left take.layout part < left → TakeAfter take left (Go (record take { at = part }))
  moves part left here fewer = (record { layout = is.layout; low = is.low; high = is.high; here = here }, refl, refl, fewer)

  seeks_after : (number : ℕ) → number < all → TakeAfter take (all - number + 1) (take_seeks take number)
  seeks_after number within = elim (ltb (number + 1) all) as (λ a. ltb (number + 1) all ≡ a → TakeAfter take (all - number + 1) (cond a (Go (record take { at = at.Seek (number + 1) })) (Done Absent))) [
    | true ↦ λ e. let less = ltb-true _ _ e in moves (at.Seek (number + 1)) (all - number + 1) less (omega arith)
    | false ↦ λ e. tt
  ] refl

  after_turn : (part : TakeAt) (got : ℕ) → IsTakeAt take.layout part → TakeAfter take (take_at_left take.layout part) (take_at_turned take part got)
  after_turn (at.Seek number) got within = elim (got == 0) as (λ a. TakeAfter take (all - number + 1) (cond a (Go (record take { at = at.Mark number })) (take_seeks take number))) [
    | true ↦ moves (at.Mark number) (all - number + 1) within (omega arith)
    | false ↦ seeks_after number within
  ]
  after_turn (at.Mark number) got within = within

pub take_stays : TakeStays
take_stays take got takes = after_turn take takes.0 take.at got takes.0.here

-- what it asks for
abbrev machine : Layout → ℕ → TakeAt → Take
machine l kind place = record { layout = l; kind = kind; at = place }

marks_by : (l : Layout) (kind : ℕ) (place : TakeAt) (got : ℕ) → TakesBy (machine l kind place) (take_turned (machine l kind place) got)
marks_by l kind (at.Seek number) got = elim (got == 0) as (λ a. TakesBy (machine l kind (at.Seek number)) (cond a (Go (machine l kind (at.Mark number))) (take_seeks (machine l kind (at.Seek number)) number))) [
  | true ↦ refl
  | false ↦ elim (ltb (number + 1) (leaf_count l)) as (λ a. TakesBy (machine l kind (at.Seek number)) (cond a (Go (machine l kind (at.Seek (number + 1)))) (Done Absent))) [ true ↦ refl | false ↦ refl ]
]
marks_by l kind (at.Mark number) got = refl

pub take_marks : TakeMarks
take_marks take got = marks_by take.layout take.kind take.at got

-- Told the marks, it knows that those before its own are set.
module _ (l : Layout) (kind : ℕ) (m : Marks) where
  abbrev count : ℕ
  count = leaf_count l

  abbrev AreSet : ℕ → Type 0
  AreSet number = (i : ℕ) → i < number → m kind i ≢ 0

  abbrev KnowsAt : TakeAt → Type 0
  KnowsAt (at.Seek number) = (number < count) × AreSet number
  KnowsAt (at.Mark number) = (number < count) × (m kind number ≡ 0) × AreSet number

  abbrev make : TakeAt → Take
  make place = machine l kind place

  record IsAt (take : Take) : Type 0 where
    pub place : TakeAt
    pub is : take ≡ make place
    pub knows : KnowsAt place

  abbrev Goes : ℕ → Turn Take Taken → Type 0
  Goes bound turn = GoesOn (take_turn m) IsAt take_left (IsTaken count m kind) bound turn

  seeks_on : (number : ℕ) → number < count → AreSet (number + 1) → Goes (count - number + 1) (take_seeks (make (at.Seek number)) number)
  seeks_on number within set = elim (ltb (number + 1) count) as (λ a. ltb (number + 1) count ≡ a → Goes (count - number + 1) (cond a (Go (make (at.Seek (number + 1)))) (Done Absent))) [
    | true ↦ λ e. let less = ltb-true _ _ e in (record { place = at.Seek (number + 1); is = refl; knows = (less, set) }, omega arith)
    | false ↦ λ e. let past = ltb-false _ _ e in λ i lt. set i (omega arith)
  ] refl

  goes_at : (place : TakeAt) → KnowsAt place → Goes (take_at_left l place) (take_turn m (make place))
  goes_at (at.Seek number) knows = elim (m kind number == 0) as (λ a. (m kind number == 0) ≡ a → Goes (count - number + 1) (cond a (Go (make (at.Mark number))) (take_seeks (make (at.Seek number)) number))) [
    | true ↦ λ e.
        let within : number < count = knows.0 in
        (record { place = at.Mark number; is = refl; knows = (within, eqb-true _ _ e, knows.1) }, omega arith)
    | false ↦ λ e. seeks_on number knows.0 (λ i lt. elim (cases_eq i number) [
      | inl same ↦ λ none. eqb-false _ _ e (ap (m kind) (sym same) ∙ none)
      | inr apart ↦ knows.1 i (omega (arith, apart))
    ])
  ] refl
  goes_at (at.Mark number) knows = knows

  goes : (take : Take) → IsAt take → Goes (take_left take) (take_turn m take)
  goes take is = subst (λ t. Goes (take_left t) (take_turn m t)) (sym is.is) (goes_at is.place is.knows)

  pub takes_exactly : (times : ℕ) → take_most l < times → IsSomeAnd (answer_in times (take_turn m) (take_starts l kind)) (IsTaken count m kind)
  takes_exactly times enough =
      let some : 0 < count = omega arith in
      answers_right (take_turn m) IsAt take_left (IsTaken count m kind) goes times (make (at.Seek 0)) (record { place = at.Seek 0; is = refl; knows = (some, λ i lt. absurd (omega arith)) }) (omega arith)

pub take_is_exact : TakeIsExact
take_is_exact l kind m times enough = takes_exactly l kind m times enough

-- what is reached has a mark, by its kind and number
pub taken_is_unreached : TakenIsUnreached
taken_is_unreached count w told m kind number tell alike fits taken =
    elim (kind == 1) as (λ a. (kind == 1) ≡ a → IsReached (tree_of w) (part_reference (cond a (LeafPart number) (CellPart (kind * 2 ^ 16 + number)))) → ⊥) [
      | true ↦ λ e reached. tell.used_leaf number reached (subst (λ k. told k number ≡ 0) (eqb-true _ _ e) (sym (alike number) ∙ taken.1))
      | false ↦ λ e reached.
          let within : number < count = taken.0 in
          let x = kind * 2 ^ 16 + number in
          let kind_is : kind_of x ≡ kind = omega arith in
          let number_is : number_of x ≡ number = omega arith in
          tell.used_cell x reached (ap₂ told kind_is number_is ∙ sym (alike number) ∙ taken.1)
    ] refl

pub unreached_stays : UnreachedStays
unreached_stays count nodes w w' filled part lawful unreached same before reached =
    before (part_reached count nodes w w' filled lawful unreached same (part_reference part) reached)

pub some_is_taken : SomeIsTaken
some_is_taken count nodes w told m kind lawful tell few alike more fits least most marked =
    some_is_free count nodes told w kind lawful tell few more fits least most (λ i lt none. marked i lt (alike i ∙ none))

pub take_sets : TakeSets
take_sets m m' kind number mark least most fits here others =
    elim (kind == 1) as (λ a. (kind == 1) ≡ a → IsMarkSet m m' (part_reference (cond a (LeafPart number) (CellPart (kind * 2 ^ 16 + number)))) mark) [
      | true ↦ λ e.
          let one : kind ≡ 1 = eqb-true _ _ e in
          record { may = tt; here = ap (λ k. m' k number) (sym one) ∙ here; others = λ k i apart. others k i (λ same number_is. apart (same ∙ one) number_is) }
      | false ↦ λ e.
          let not_one = eqb-false _ _ e in
          let x = kind * 2 ^ 16 + number in
          let kind_is : kind_of x ≡ kind = omega arith in
          let number_is : number_of x ≡ number = omega arith in
          record {
            may = (omega (arith, not_one), omega arith);
            here = ap₂ m' kind_is number_is ∙ here;
            others = λ k i apart. others k i (λ same same_number. apart (same ∙ sym kind_is) (same_number ∙ sym number_is));
          }
    ] refl

-- a reference by its kind and number
part_is : (r : ℕ) → 1 ≤ kind_of r → part_reference (part_of (kind_of r) (number_of r)) ≡ reference_of r
part_is r least =
    let some_reference : r ≢ 0 = λ e. omega arith in
    elim (kind_of r == leaf_kind) as (λ a. part_reference (cond a (LeafPart (number_of r)) (CellPart (kind_of r * 2 ^ 16 + number_of r))) ≡ cond a (Leaf (number_of r)) (Cell r)) [
      | true ↦ refl
      | false ↦ ap Cell (let is : kind_of r * 2 ^ 16 + number_of r ≡ r = omega arith in is)
    ]
    ∙ sym (ap (λ a. cond a Nothing (cond (kind_of r == leaf_kind) (Leaf (number_of r)) (Cell r))) (ne_eqb r 0 some_reference))

pub free_sets : FreeSets
free_sets m m' reference mark least most here others =
    subst (λ q. IsMarkSet m m' q mark) (part_is reference least) (take_sets m m' (kind_of reference) (number_of reference) mark least most (omega arith) here others)

-- Whole runs of a change: at each moment, and at the end.
use Rattle.std.proofs.Common.{◌≡◌, ◌≢◌, ℕ, ◌+◌, ◌-◌, ◌^◌, ◌<◌, ◌≤◌, ◌⊎◌, cond, inl, inr, List, length, Some, None, refl, sym, subst, ap, ◌∙◌, arith}
use Rattle.pm_words.specs.declared.layout.Layout.{Layout}
use Rattle.pm_words.specs.declared.machine.Turn.TheVariants.{Go, Done}
use Rattle.pm_words.specs.Locations.{Cached, Durable, leaf_count, image_words, row_words}
use Rattle.pm_words.specs.Rows.{IsRow, CanAct, acted, evicted}
use Rattle.pm_words.specs.Rows as rows
use Rattle.pm_words.proofs.Kept.{acted_row, evicted_row}
use Rattle.radix_nodes.specs.Cells.{words_of}
use Rattle.radix_nodes.specs.Fills.{lines_of}
use Rattle.std.proofs.lemmas.Bool.{ne_eqb}
use Rattle.layer_map.specs.Layers.{node_of, Layer, AreSame, HasFew}
use Rattle.tree_law.specs.Words.{LayerWord, LayerWords, word_in, IsMix, Keeps, LeafPart}
use Rattle.tree_law.specs.Stages.{Marks}
use Rattle.tree_row.specs.Rows.{layer_words}
use Rattle.tree_row.specs.RowMarks.{row_marks}
use Rattle.tree_row.proofs.RowLaw.{reads_fit, eviction_mixes, crash_reads}
use Rattle.tree_row.proofs.MarkLaw.{eviction_leaves_marks}
use Rattle.layer_map.specs.Keys.{key_number}
use Rattle.tree_look.specs.Looks.{look_most}
use Rattle.tree_look.proofs.LookExact.{look_is_exact}
use Rattle.tree_change.specs.Endings.{Ending, CanQuiet, Quieted, CanSwitch, Switched, Unmarks, EndingMix, SureCan, ending_at}
use Rattle.tree_change.specs.Fillings.{stage_at, leaf_words, cell_part}
use Rattle.tree_change.proofs.EndingLaw.{ending_drains, ending_mixes}
use Rattle.tree_change.proofs.FillingLaw.{filling_drains, filling_mixes}
use Rattle.tree_update.specs.declared.change.Change.{Change}
use Rattle.tree_update.specs.declared.change.ChangeAt.TheVariants as at
use Rattle.tree_update.specs.declared.change.Ended.{Ended}
use Rattle.tree_update.specs.declared.change.Ended.TheVariants.{Made, NoRoom, Wrong}
use Rattle.tree_update.specs.Changes.{IsChange, change_starts, change_asks, change_turned, change_left, change_most}
use Rattle.tree_update.specs.ChangeStays.{ChangeAfter}
use Rattle.tree_update.specs.Knowns.{Rests, HasLeaf}
use Rattle.tree_update.specs.Stages.{Aim, made_of, aim_of, IsRooted, SureAt, SureIn, SureInAfter, SureEnd}
use Rattle.tree_update.specs.Runs.{layer_in, IsAtRest, HasSameLayer, Runs, begins, turns, others, evicts, Begins, KeepsEither, MomentKeeps, EachMomentKeeps, EndsAs, RunsEndRight, RunsEndChanged, UnsetKeepsZero, ChangeEvicts, ChangeMixes}
use Rattle.tree_update.proofs.ChangeStays.{changes_stay}
use Rattle.tree_update.proofs.Turning.{change_acts}
use Rattle.tree_update.proofs.Acting.{change_can_act}
use Rattle.tree_update.proofs.OthersStay.{change_keeps_others}
use Rattle.tree_update.specs.Kinds.{KeepsOthers}
use Rattle.tree_update.specs.declared.set.Set.{Set}
use Rattle.tree_update.specs.Sets.{set_starts}
use Rattle.tree_update.specs.Alone.{IsChanged}
use Rattle.tree_change.proofs.RowSteps.{got_fits}

-- Whatever becomes durable by itself is a mix of both twins.

can_mix : (count nodes : ℕ) (layer : Layer) (w s mix : LayerWords) → SureCan count nodes layer w s → IsMix w s mix → SureCan count nodes layer w mix
can_mix count nodes layer w s mix can is = ending_drains count nodes layer layer Unmarks w s mix can is

rests_mix : (count nodes : ℕ) (before : Layer) (w s mix : LayerWords) (m : Marks) → Rests count nodes before w s m → IsMix w s mix → Rests count nodes before w mix m
rests_mix count nodes before w s mix m rests is = record { can = can_mix count nodes before w s mix rests.can is; tells = rests.tells }

leaf_mix : (count nodes : ℕ) (before : Layer) (key node leaf : ℕ) (w s mix : LayerWords) (m : Marks) → HasLeaf count nodes before key node leaf w s m → IsMix w s mix → HasLeaf count nodes before key node leaf w mix m
leaf_mix count nodes before key node leaf w s mix m has is = record {
  can = can_mix count nodes before w s mix has.can is;
  told = has.told;
  tells = has.tells;
  marked = has.marked;
  unreached = has.unreached;
  filled = has.filled;
}

pub change_evicts : ChangeEvicts
change_evicts count nodes before aim (at.Looking look) w s mix m sure is = (rests_mix count nodes before w s mix m sure.0 is, sure.1)
change_evicts count nodes before aim (at.TakingLeaf take place) w s mix m sure is = (rests_mix count nodes before w s mix m sure.0 is, sure.1, sure.2)
change_evicts count nodes before aim (at.FillingLeaf fill place) w s mix m sure is = record {
  begun = sure.begun;
  keeps = sure.keeps;
  sure = filling_drains count nodes before sure.begun (LeafPart fill.number) 1 (leaf_words fill) (stage_at 1 fill.at) w s mix sure.sure is;
  sited = sure.sited;
  told = sure.told;
  tells = sure.tells;
  marked = sure.marked;
  unreached = sure.unreached;
}
change_evicts count nodes before aim (at.FindingRoom find spot leaf) w s mix m sure is = (sure.0, leaf_mix count nodes before (key_number aim.key) (aim.word - 1) leaf w s mix m sure.1 is, sure.2, sure.3)
change_evicts count nodes before aim (at.ReadingCell read spot byte leaf) w s mix m sure is = (sure.0, leaf_mix count nodes before (key_number aim.key) (aim.word - 1) leaf w s mix m sure.1 is, sure.2, sure.3)
change_evicts count nodes before aim (at.TakingCell take new) w s mix m sure is = (sure.0, sure.1, leaf_mix count nodes before (key_number aim.key) (aim.word - 1) sure.1 w s mix m sure.2 is, sure.3, sure.4)
change_evicts count nodes before aim (at.FillingCell fill spot free) w s mix m sure is = record {
  start = sure.start;
  sure = filling_drains count nodes before sure.start.begun (cell_part fill) (lines_of fill.cell.kind) (words_of fill.cell) (stage_at (lines_of fill.cell.kind) fill.at) w s mix sure.sure is;
  marked = sure.marked;
  unreached = sure.unreached;
}
change_evicts count nodes before aim (at.ReadingDepth leaf outer inner) w s mix m sure is = (sure.0, rests_mix count nodes before w s mix m sure.1 is, sure.2)
change_evicts count nodes before aim (at.Counting look leaf outer inner) w s mix m sure is = (sure.0, rests_mix count nodes before w s mix m sure.1 is, sure.2, sure.3, sure.4)
change_evicts count nodes before aim (at.ReadingIndex cell byte leaf) w s mix m sure is = (sure.0, rests_mix count nodes before w s mix m sure.1 is, sure.2, sure.3, sure.4, sure.5, sure.6, sure.7)
change_evicts count nodes before aim (at.Finishing finish) w s mix m sure is = (ending_drains count nodes before (made_of aim before) (ending_at finish finish.at) w s mix sure.0 is, sure.1)

-- Each mix has the layer before, or the one made.

abbrev Either : ℕ → ℕ → Layer → Layer → LayerWords → Type 0
Either count nodes before made mix = Keeps count nodes before mix ⊎ Keeps count nodes made mix

can_keeps : (count nodes : ℕ) (layer : Layer) (w s mix : LayerWords) → SureCan count nodes layer w s → IsMix w s mix → Keeps count nodes layer mix
can_keeps count nodes layer w s mix can is = (ending_mixes count nodes layer layer Unmarks w s mix can is).1

ending_either : (count nodes : ℕ) (before made : Layer) (e : Ending) (mix : LayerWords) → EndingMix count nodes before made e mix → Either count nodes before made mix
ending_either count nodes before made (CanQuiet p y q z) mix keeps = inl keeps
ending_either count nodes before made (Quieted p d hand q z) mix keeps = inl keeps
ending_either count nodes before made (CanSwitch q z) mix keeps = inl keeps
ending_either count nodes before made (Switched q d hand) mix keeps = keeps
ending_either count nodes before made Unmarks mix keeps = inr keeps

pub change_mixes : ChangeMixes
change_mixes count nodes before aim (at.Looking look) w s mix m sure is = inl (can_keeps count nodes before w s mix sure.0.can is)
change_mixes count nodes before aim (at.TakingLeaf take place) w s mix m sure is = inl (can_keeps count nodes before w s mix sure.0.can is)
change_mixes count nodes before aim (at.FillingLeaf fill place) w s mix m sure is = inl (filling_mixes count nodes before sure.begun (LeafPart fill.number) 1 (leaf_words fill) (stage_at 1 fill.at) w s mix sure.sure is).1
change_mixes count nodes before aim (at.FindingRoom find spot leaf) w s mix m sure is = inl (can_keeps count nodes before w s mix sure.1.can is)
change_mixes count nodes before aim (at.ReadingCell read spot byte leaf) w s mix m sure is = inl (can_keeps count nodes before w s mix sure.1.can is)
change_mixes count nodes before aim (at.TakingCell take new) w s mix m sure is = inl (can_keeps count nodes before w s mix sure.2.can is)
change_mixes count nodes before aim (at.FillingCell fill spot free) w s mix m sure is = inl (filling_mixes count nodes before sure.start.begun (cell_part fill) (lines_of fill.cell.kind) (words_of fill.cell) (stage_at (lines_of fill.cell.kind) fill.at) w s mix sure.sure is).1
change_mixes count nodes before aim (at.ReadingDepth leaf outer inner) w s mix m sure is = inl (can_keeps count nodes before w s mix sure.1.can is)
change_mixes count nodes before aim (at.Counting look leaf outer inner) w s mix m sure is = inl (can_keeps count nodes before w s mix sure.1.can is)
change_mixes count nodes before aim (at.ReadingIndex cell byte leaf) w s mix m sure is = inl (can_keeps count nodes before w s mix sure.1.can is)
change_mixes count nodes before aim (at.Finishing finish) w s mix m sure is = ending_either count nodes before (made_of aim before) (ending_at finish finish.at) mix (ending_mixes count nodes before (made_of aim before) (ending_at finish finish.at) w s mix sure.0 is).1

-- the cached words and the durable ones are mixes
all_cached : (w s : LayerWords) → IsMix w s w
all_cached w s p = inl refl

all_durable : (w s : LayerWords) → IsMix w s s
all_durable w s p = inr refl

-- A change on its run.
pub record OnRun (l : Layout) (before : Layer) (aim : Aim) (change : Change) (now : List ℕ) : Type 0 where
  pub sound : IsChange change
  pub layout_is : change.layout ≡ l
  pub aim_is : aim_of change ≡ aim
  pub row : IsRow l now
  pub sure : SureIn l before aim change.at now

module _ (l : Layout) (before : Layer) (aim : Aim) (rooted : IsRooted aim before) where
  pub can_on : (change : Change) (now : List ℕ) → OnRun l before aim change now → CanAct l now (change_asks change)
  can_on change now on = subst (λ k. CanAct k now (change_asks change)) on.layout_is (change_can_act change now on.sound)

  -- its turn
  abbrev Turned : Layout → Aim → Change → List ℕ → Type 0
  Turned k a change now = IsRow k now → IsRooted a before → SureIn k before a change.at now → SureInAfter k before a (change_turned change (rows.got k now (change_asks change))) (acted k now (change_asks change))

  pub turn_on : (change : Change) (now : List ℕ) → OnRun l before aim change now → SureInAfter l before aim (change_turned change (rows.got l now (change_asks change))) (acted l now (change_asks change))
  turn_on change now on =
      let own : Turned change.layout (aim_of change) change now = λ row rooted' sure. change_acts before change now on.sound row rooted' sure in
      subst (λ a. Turned l a change now) on.aim_is (subst (λ k. Turned k (aim_of change) change now) on.layout_is own) on.row rooted on.sure

  pub goes_on : (change next : Change) (now : List ℕ) → OnRun l before aim change now → change_turned change (rows.got l now (change_asks change)) ≡ Go next → OnRun l before aim next (acted l now (change_asks change))
  goes_on change next now on is =
      let stays = subst (ChangeAfter change (change_left change)) is (changes_stay change (rows.got l now (change_asks change)) (on.sound, got_fits l now on.row (change_asks change))) in
      record {
        sound = stays.sound;
        layout_is = stays.layout_is ∙ on.layout_is;
        aim_is = (λ i. record { key = stays.key_is i; word = stays.word_is i }) ∙ on.aim_is;
        row = acted_row l now (change_asks change) on.row (can_on change now on);
        sure = subst (λ turn. SureInAfter l before aim turn (acted l now (change_asks change))) is (turn_on change now on);
      }

  -- other parties, and evictions
  pub stays_on : (change : Change) (now after : List ℕ) → OnRun l before aim change now → IsRow l after → HasSameLayer l now after → OnRun l before aim change after
  stays_on change now after on row same = record {
    sound = on.sound;
    layout_is = on.layout_is;
    aim_is = on.aim_is;
    row = row;
    sure = subst (λ w. SureAt (leaf_count l) l.nodes before aim change.at w (layer_words l after Durable) (row_marks l after)) (sym same.cached)
        (subst (λ s. SureAt (leaf_count l) l.nodes before aim change.at (layer_words l now Cached) s (row_marks l after)) (sym same.durable)
        (subst (SureAt (leaf_count l) l.nodes before aim change.at (layer_words l now Cached) (layer_words l now Durable)) (sym same.marks) on.sure));
  }

  pub evicts_on : (change : Change) (now : List ℕ) (word : ℕ) → OnRun l before aim change now → word < image_words l → OnRun l before aim change (evicted l now word)
  evicts_on change now word on inside =
      let mixes = eviction_mixes l now word on.row.whole in
      let after = evicted l now word in
      record {
        sound = on.sound;
        layout_is = on.layout_is;
        aim_is = on.aim_is;
        row = evicted_row l now word on.row inside;
        sure = subst (λ w. SureAt (leaf_count l) l.nodes before aim change.at w (layer_words l after Durable) (row_marks l after)) (sym mixes.0)
            (subst (SureAt (leaf_count l) l.nodes before aim change.at (layer_words l now Cached) (layer_words l after Durable)) (sym (eviction_leaves_marks l now word))
            (change_evicts (leaf_count l) l.nodes before aim change.at (layer_words l now Cached) (layer_words l now Durable) (layer_words l after Durable) (row_marks l now) on.sure mixes.1));
      }

module _ (l : Layout) (words : List ℕ) (first : Change) (begin : Begins l words first) where
  abbrev before : Layer
  before = layer_in l words

  abbrev aim : Aim
  aim = aim_of first

  pub starts_on : OnRun l before aim first words
  starts_on =
      let w = layer_words l words Cached in
      let key = first.key in
      let layout_is : first.layout ≡ l = ap (λ (c : Change). c.layout) begin.start in
      let fits : (p : LayerWord) → word_in w p < 2 ^ 64 = λ p. reads_fit l words Cached p begin.row.fits in
      let exact = look_is_exact l key w look_most (omega arith) begin.row.layout begin.sound.key fits begin.rest.lawful in
      let rests : Rests (leaf_count l) l.nodes before w (layer_words l words Durable) (row_marks l words) = record { can = record { keeps = record { lawful = begin.rest.lawful; same = λ k. refl }; even = begin.rest.even }; tells = begin.rest.tells } in
      record {
        sound = begin.sound;
        layout_is = layout_is;
        aim_is = refl;
        row = begin.row;
        sure = subst (λ part. SureIn l before aim part words) (sym (ap (λ (c : Change). c.at) begin.start)) (rests, (look_most, exact));
      }

  pub on_run : {change : Change} {now : List ℕ} → Runs l words first change now → OnRun l before aim change now
  on_run begins = starts_on
  on_run (turns {change = change} {next = next} {now = now} run is) = goes_on l before aim begin.rooted change next now (on_run run) is
  on_run (others {change = change} {now = now} {after = after} run row same) = stays_on l before aim begin.rooted change now after (on_run run) row same
  on_run (evicts {change = change} {now = now} {word = word} run inside) = evicts_on l before aim begin.rooted change now word (on_run run) inside

  mix_either : (change : Change) (now : List ℕ) (mix : LayerWords) → OnRun l before aim change now → IsMix (layer_words l now Cached) (layer_words l now Durable) mix → KeepsEither l aim before mix
  mix_either change now mix on is = change_mixes (leaf_count l) l.nodes before aim change.at (layer_words l now Cached) (layer_words l now Durable) mix (row_marks l now) on.sure is

  pub moment : (change : Change) (now : List ℕ) → OnRun l before aim change now → MomentKeeps l words first change now
  moment change now on = record {
    acts = can_on l before aim begin.rooted change now on;
    cached = mix_either change now (layer_words l now Cached) on (all_cached (layer_words l now Cached) (layer_words l now Durable));
    mixes = λ mix is. mix_either change now mix on is;
    crash = subst (λ v. Keeps (leaf_count l) l.nodes before v ⊎ Keeps (leaf_count l) l.nodes (made_of aim before) v) (sym (crash_reads l now))
        (mix_either change now (layer_words l now Durable) on (all_durable (layer_words l now Cached) (layer_words l now Durable)));
  }

pub each_moment_keeps : EachMomentKeeps
each_moment_keeps l words first change now begin run = moment l words first begin change now (on_run l words first begin run)

ends_as : (l : Layout) (before : Layer) (aim : Aim) (ended : Ended) (after : List ℕ) → SureEnd (leaf_count l) l.nodes before aim ended (layer_words l after Cached) (layer_words l after Durable) (row_marks l after) → EndsAs l aim before ended after
ends_as l before aim Made after rests = (rests.can.keeps.same, record { lawful = rests.can.keeps.lawful; even = rests.can.even; tells = rests.tells })
ends_as l before aim NoRoom after sure = (sure.0.keeps.same, sure.0.even, sure.1, sure.2)
ends_as l before aim Wrong after sure = sure

pub ends_right : (l : Layout) (before : Layer) (aim : Aim) → IsRooted aim before → (change : Change) (now : List ℕ) (ended : Ended) → OnRun l before aim change now → change_turned change (rows.got l now (change_asks change)) ≡ Done ended → EndsAs l aim before ended (acted l now (change_asks change))
ends_right l before aim rooted change now ended on is =
    ends_as l before aim ended (acted l now (change_asks change)) (subst (λ turn. SureInAfter l before aim turn (acted l now (change_asks change))) is (turn_on l before aim rooted change now on))

-- with few keys it is made
pub ends_on : (l : Layout) (before : Layer) (aim : Aim) → IsRooted aim before → (aim.word ≢ 0 → HasFew l.nodes before) → (change : Change) (now : List ℕ) (ended : Ended) → OnRun l before aim change now → change_turned change (rows.got l now (change_asks change)) ≡ Done ended
    → (ended ≡ Made) × AreSame (layer_in l (acted l now (change_asks change))) (made_of aim before) × IsAtRest l (acted l now (change_asks change))
ends_on l before aim rooted few change now ended on is = go ended (ends_right l before aim rooted change now ended on is)
  where
    go : (e : Ended) → EndsAs l aim before e (acted l now (change_asks change)) → (e ≡ Made) × AreSame (layer_in l (acted l now (change_asks change))) (made_of aim before) × IsAtRest l (acted l now (change_asks change))
    go Made right = (refl, right.0, right.1)
    go NoRoom right = absurd (right.2 (few right.3))
    go Wrong right = absurd right

pub runs_end_right : RunsEndRight
runs_end_right l words first change now ended begin run is = ends_right l (layer_in l words) (aim_of first) begin.rooted change now ended (on_run l words first begin run) is

pub runs_end_changed : RunsEndChanged
runs_end_changed l words first change now ended begin few run is = ends_on l (layer_in l words) (aim_of first) begin.rooted few change now ended (on_run l words first begin run) is

-- an unset leaves the zero key where it was
pub unset_keeps_zero : UnsetKeepsZero
unset_keeps_zero l words first change now mix begin none run is =
    let before = layer_in l words in
    let key = key_number first.key in
    let apart = (begin.rooted none).0 in
    elim (mix_either l words first begin change now mix (on_run l words first begin run) is) [
      | inl keeps ↦ keeps.same 0
      | inr keeps ↦ keeps.same 0 ∙ ap (λ a. cond a (node_of first.word) (before 0)) (ne_eqb 0 key (λ e. apart (sym e)))
    ]

-- what isn't of the layer stays
pub others_on : (l : Layout) (before : Layer) (aim : Aim) (change : Change) (now : List ℕ) → OnRun l before aim change now → KeepsOthers l now (acted l now (change_asks change))
others_on l before aim change now on = subst (λ k. length now ≡ row_words k → KeepsOthers k now (acted k now (change_asks change))) on.layout_is (change_keeps_others change now on.sound) on.row.whole

-- how many actions it asks for, at most
pub starts_left : (l : Layout) (first : Change) → first ≡ change_starts l first.key first.word → change_left first ≤ change_most l
starts_left l first start = subst (λ c. change_left c ≤ change_most l) (sym start) (let le : change_left (change_starts l first.key first.word) ≤ change_most l = omega arith in le)

-- a set that has led its key to its node and one has led it to its node
pub set_changed : (l k : Layout) (key : List ℕ) (node : ℕ) (set : Set) (words after : List ℕ) → set ≡ set_starts k key node → IsChanged l (key_number set.change.key) (node_of set.change.word) words after → IsChanged l (key_number key) (Some node) words after
set_changed l k key node set words after start changed =
    subst (λ n. IsChanged l (key_number key) n words after) (ap (λ a. cond a None (Some (node + 1 - 1))) (ne_eqb (node + 1) 0 (λ e. omega arith)) ∙ ap Some (let is : node + 1 - 1 ≡ node = omega arith in is))
    (subst (λ (s : Set). IsChanged l (key_number s.change.key) (node_of s.change.word) words after) start changed)

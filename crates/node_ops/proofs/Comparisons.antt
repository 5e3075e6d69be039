-- A look-up that is alone at its node: it loads the fingerprints, and compares its name with those of the candidates.
use Rattle.std.proofs.Common.{◌≡◌, ℕ, ◌+◌, ◌-◌, ◌*◌, ◌<◌, ◌≤◌, ◌==◌, Bool, true, false, cond, ltb, Some, None, List}
use Rattle.std.proofs.Common.{◌^◌, get_or, slice_set, ap, sym, subst, ◌∙◌, arith}
use Rattle.std.proofs.lemmas.Bool.{le-ltb, lt-ltb}
use Rattle.std.proofs.lemmas.Nat.{and_le_l}
use native.Mathlib.Nat.{mul-le-mul}
use Rattle.std.specs.Int.{bit_at}
use Rattle.pm_words.specs.declared.action.Action.TheVariants.{Load}
use Rattle.pm_words.specs.Images.{Row}
use Rattle.pm_words.specs.Locations.{node_words}
use Rattle.pm_words.specs.Rows.{CanAct, acted, got}
use Rattle.pm_words.specs.Turns.{GoesBelow}
use Rattle.pm_words.specs.declared.machine.Turn.{Turn}
use Rattle.pm_words.specs.Offsets.{bitmap_offset, prints_offset, slot_offset, value_word}
use Rattle.data_node.specs.Bits.{candidate_bits, without_live, lowest_live}
use Rattle.data_node.proofs.BitLemmas.{lowest_live-some, without_live-same}
use Rattle.node_ops.specs.declared.call.Call.{Call}
use Rattle.node_ops.specs.declared.lookup.Hold.{Hold}
use Rattle.node_ops.specs.declared.lookup.Directory.{Directory}
use Rattle.node_ops.specs.declared.lookup.Lookup.{Lookup}
use Rattle.node_ops.specs.declared.lookup.Looked.{Looked}
use Rattle.node_ops.specs.declared.lookup.Looked.TheVariants as looked
use Rattle.node_ops.specs.declared.lookup.LookupAt.TheVariants as at
use Rattle.node_ops.specs.Calls.{IsCall, call_address}
use Rattle.node_ops.specs.LookupSteps.{IsLookup, candidate_turned, goes_to, next_candidate, saw_directory}
use Rattle.node_ops.specs.LookupSteps.{saw_prints, lookup_left}
use Rattle.node_ops.specs.Looking.{ComparesIn, LeadsTo, LoadsPrints, LooksFrom, MayLookFrom}
use Rattle.node_ops.specs.Looking.{has_prints, has_words, loads_prints, told_name}
use Rattle.node_ops.proofs.Leading.{leads_looks, leads_on, leads_to, leads_turn, look_can, look_sound, turn_leads}
use Rattle.node_ops.proofs.Measures.{comparing_within, name_fewer}

-- addresses of words that stand one behind another
print_address : (call : Call) (k first : ℕ) → first ≡ call_address call prints_offset → first + k ≡ call_address call (8 + k)
print_address call k first is = omega (arith, is)

word_address : (call : Call) (slot k first : ℕ) → first ≡ call_address call (slot_offset slot 0)
    → first + k ≡ call_address call (slot_offset slot k)
word_address call slot k first is = omega (arith, is)

pub address_fits : (call : Call) (offset k first : ℕ) → IsCall call → first ≡ call_address call offset
    → offset + k < node_words call.view.layout → first + k < 2 ^ 64
address_fits call offset k first sound is within =
    let l = call.view.layout in
    let nodes : l.nodes ≤ 4096 = sound.view.layout.nodes.1 in
    let slots : l.slots ≤ 64 = sound.view.layout.slots.1 in
    let callers : l.callers ≤ 16 = sound.view.layout.callers.1 in
    let node : call.node < l.nodes = sound.node in
    let words : node_words l ≤ 272 = omega arith in
    let under : call.node ≤ 4096 = omega arith in
    let before : call.node * node_words l ≤ 4096 * 272 = mul-le-mul under words in
    omega (arith, is, before, within, words, nodes, callers)

-- each turn leaves fewer actions
prints_fewer : (call : Call) (hold : Hold) (bitmap : ℕ) (prints : List ℕ) (k word : ℕ) → k < 8
    → GoesBelow {A = Looked} lookup_left (3 * call.view.layout.slots + 9 - k)
    (saw_prints call hold bitmap prints k word)
prints_fewer call hold bitmap prints k word small =
    let slots = call.view.layout.slots in
    let bound = 3 * slots + 9 - k in
    let more : Directory = record { bitmap = bitmap; prints = slice_set prints k word } in
    let left = candidate_bits bitmap more.prints call.print slots in
    elim (ltb (k + 1) 8) as (λ b. GoesBelow {A = Looked} lookup_left bound (cond b
    (goes_to call (at.Prints hold bitmap more.prints (k + 1)))
    (saw_directory call hold more))) [
      | true ↦ omega arith
      | false ↦ elim (lowest_live left) as (λ o.
          GoesBelow {A = Looked} lookup_left bound (candidate_turned call hold more left o)) [
            | None ↦ tt
            | Some slot ↦ omega arith
          ]
    ]

-- while it loads fingerprints
module _ {old now : Row} (call : Call) (hold : Hold) (bitmap : ℕ) (prints : List ℕ) (k : ℕ) (small : k < 8)
    {from : Turn Lookup Looked} {begun steps : ℕ}
    (on : LeadsTo old now call from (has_prints call hold bitmap prints k) begun steps) where
  prints_on : LeadsTo old now call from (goes_to call (at.Prints hold bitmap prints k)) begun steps
  prints_on =
      leads_to (goes_to call (at.Prints hold bitmap prints k)) on
      (ap (λ (b : Bool). cond b (goes_to call (at.Prints hold bitmap prints k))
      (saw_directory call hold (record { bitmap = bitmap; prints = prints }))) (lt-ltb k 8 small))

  pub print_can : {first : ℕ} → first ≡ call_address call prints_offset → CanAct now.layout now.words (Load (first + k))
  print_can {first} is =
      look_can (record { call = call; at = at.Prints hold bitmap prints k }) prints_on.may
      (ap (λ (a : ℕ). Load a) (print_address call k first is))

  pub print_leads : {after : Row} {first number later : ℕ} → first ≡ call_address call prints_offset
      → after ≡ record now { words = acted now.layout now.words (Load (first + k)) }
      → number ≡ got now.layout now.words (Load (first + k)) → later ≡ steps + 1
      → LeadsTo old after call from (has_prints call hold bitmap (slice_set prints k number) (k + 1)) begun later
  print_leads {first = first} {number = number} is acts given ticks =
      leads_turn (record { call = call; at = at.Prints hold bitmap prints k }) prints_on
      (prints_fewer call hold bitmap prints k number small) (ap (λ (a : ℕ). Load a) (print_address call k first is))
      acts given ticks

-- it begins to compare the words of a slot's name
module _ {old : Row} (call : Call) (hold : Hold) (directory : Directory) (left slot : ℕ)
    (may : MayLookFrom old (goes_to call (at.Name hold directory left slot 0))) where
  name_sound : IsLookup (record { call = call; at = at.Name hold directory left slot 0 })
  name_sound = look_sound (record { call = call; at = at.Name hold directory left slot 0 }) may

  pub name_call : IsCall call
  name_call = name_sound.call

  name_slot : slot < call.view.layout.slots
  name_slot = comparing_within _ _ _ _ name_sound.here.2

  pub name_small : slot < 64
  name_small =
      let within : slot < call.view.layout.slots = name_slot in
      let limit : call.view.layout.slots ≤ 64 = name_sound.call.view.layout.slots.1 in
      omega arith

  pub name_within : (k : ℕ) → k < 4 → slot_offset slot 0 + k < node_words call.view.layout
  name_within k small =
      let within : slot < call.view.layout.slots = name_slot in
      omega arith

-- while it compares the words of a slot's name
module _ {old now : Row} (call : Call) (hold : Hold) (directory : Directory) (left slot k : ℕ) (small : k < 3)
    {from : Turn Lookup Looked} {begun steps : ℕ}
    (on : LeadsTo old now call from (has_words call hold directory left slot k) begun steps) where
  words_on : LeadsTo old now call from (goes_to call (at.Name hold directory left slot k)) begun steps
  words_on =
      leads_to (goes_to call (at.Name hold directory left slot k)) on
      (ap (λ (b : Bool). cond b (goes_to call (at.Name hold directory left slot k))
      (goes_to call (at.Value hold directory slot))) (lt-ltb k 3 small))

  pub word_can : {first : ℕ} → first ≡ call_address call (slot_offset slot 0)
      → CanAct now.layout now.words (Load (first + k))
  word_can {first} is =
      look_can (record { call = call; at = at.Name hold directory left slot k }) words_on.may
      (ap (λ (a : ℕ). Load a) (word_address call slot k first is))

  pub word_leads : {after : Row} {first number later : ℕ} (same : Bool) → (number == get_or call.name k 0) ≡ same
      → first ≡ call_address call (slot_offset slot 0)
      → after ≡ record now { words = acted now.layout now.words (Load (first + k)) }
      → number ≡ got now.layout now.words (Load (first + k)) → later ≡ steps + 1
      → LeadsTo old after call from (cond same (has_words call hold directory left slot (k + 1))
      (next_candidate call hold directory (without_live left slot))) begun later
  word_leads {first = first} {number = number} same told is acts given ticks =
      let l : Lookup = record { call = call; at = at.Name hold directory left slot k } in
      let sound = look_sound l words_on.may in
      leads_to (cond same (has_words call hold directory left slot (k + 1))
      (next_candidate call hold directory (without_live left slot)))
      (leads_turn l words_on
      (name_fewer call hold directory left slot k number sound.call.view.layout.slots.1 sound.here.2 sound.here.3)
      (ap (λ (a : ℕ). Load a) (word_address call slot k first is)) acts given ticks)
      (ap (λ (b : Bool). cond b (has_words call hold directory left slot (k + 1))
      (next_candidate call hold directory (without_live left slot))) told)

-- it has compared all of them
pub words_end : {old now : Row} (call : Call) (hold : Hold) (directory : Directory) (left slot k : ℕ) → 3 ≤ k
    → {from : Turn Lookup Looked} {begun steps : ℕ}
    → LeadsTo old now call from (has_words call hold directory left slot k) begun steps
    → LeadsTo old now call from (goes_to call (at.Value hold directory slot)) begun steps
words_end call hold directory left slot k whole on =
    leads_to (goes_to call (at.Value hold directory slot)) on
    (ap (λ (b : Bool). cond b (goes_to call (at.Name hold directory left slot k))
    (goes_to call (at.Value hold directory slot))) (le-ltb k 3 whole))

-- a candidate is left out
without_most : (left slot : ℕ) → without_live left slot ≤ left
unfolding without_live
without_most left slot = and_le_l left _

fewer_left : (left slot : ℕ) → left < 2 ^ 64 → lowest_live left ≡ Some slot → without_live left slot < left
fewer_left left slot fits is =
    let lowest = lowest_live-some left slot fits is in
    let live : bit_at left slot ≡ 1 = lowest.live in
    let clear : bit_at (without_live left slot) slot ≡ 0 = without_live-same left slot lowest.within in
    let most : without_live left slot ≤ left = without_most left slot in
    let apart : without_live left slot ≡ left → ⊥ = λ same.
    let now_clear : bit_at left slot ≡ 0 = subst (λ (n : ℕ). bit_at n slot ≡ 0) same clear in
    omega (arith, live, now_clear) in
    omega (arith, most, apart)

-- while it goes over the candidates
module _ {old now : Row} (call : Call) (hold : Hold) (directory : Directory) (left slot : ℕ)
    (is : lowest_live left ≡ Some slot) {from : Turn Lookup Looked} {begun steps : ℕ}
    (on : LeadsTo old now call from (next_candidate call hold directory left) begun steps) where
  candidate_on : LeadsTo old now call from (goes_to call (at.Name hold directory left slot 0)) begun steps
  candidate_on =
      leads_to (goes_to call (at.Name hold directory left slot 0)) on
      (ap (candidate_turned call hold directory left) is)

  candidate_sound : IsLookup (record { call = call; at = at.Name hold directory left slot 0 })
  candidate_sound = look_sound (record { call = call; at = at.Name hold directory left slot 0 }) candidate_on.may

  pub candidate_call : IsCall call
  candidate_call = candidate_sound.call

  pub candidate_slot : slot < 64
  candidate_slot =
      let within : slot < call.view.layout.slots = comparing_within _ _ _ _ candidate_sound.here.2 in
      let limit : call.view.layout.slots ≤ 64 = candidate_call.view.layout.slots.1 in
      omega arith

  pub candidate_within : slot_offset slot value_word < node_words call.view.layout
  candidate_within =
      let within : slot < call.view.layout.slots = comparing_within _ _ _ _ candidate_sound.here.2 in
      omega arith

  pub candidate_told : {after : Row} {told : Bool} {later : ℕ} (same : Bool) → told ≡ same
      → ComparesIn now after call slot told steps later
      → LeadsTo old after call from (told_name call hold directory left slot same) begun later
  candidate_told same is_told compared =
      leads_on candidate_on
      (leads_to (told_name call hold directory left slot same) (compared hold directory left candidate_on.may)
      (ap (told_name call hold directory left slot) is_told))

  pub candidates_fewer : without_live left slot < left
  candidates_fewer = fewer_left left slot candidate_sound.here.2.fits is

-- it loads the value of the slot that has the name
module _ {old now : Row} (call : Call) (hold : Hold) (directory : Directory) (slot : ℕ) {from : Turn Lookup Looked}
    {begun steps : ℕ} (on : LeadsTo old now call from (goes_to call (at.Value hold directory slot)) begun steps) where
  pub value_can : {address : ℕ} → address ≡ call_address call (slot_offset slot value_word)
      → CanAct now.layout now.words (Load address)
  value_can is =
      look_can (record { call = call; at = at.Value hold directory slot }) on.may (ap (λ (a : ℕ). Load a) is)

  pub value_looks : {after : Row} {address number later : ℕ} → address ≡ call_address call (slot_offset slot value_word)
      → after ≡ record now { words = acted now.layout now.words (Load address) }
      → number ≡ got now.layout now.words (Load address) → later ≡ steps + 1
      → LooksFrom old after call from call (looked.Found (record {
        hold = hold;
        directory = directory;
        hit = Some (record { slot = slot; value = number });
      })) begun later
  value_looks is acts given ticks =
      leads_looks (leads_turn (record { call = call; at = at.Value hold directory slot }) on tt
      (ap (λ (a : ℕ). Load a) is) acts given ticks)

-- it loads the bitmap
module _ (call : Call) (hold : Hold) {old : Row} (may : MayLookFrom old (goes_to call (at.Bitmap hold))) {address : ℕ}
    (is : address ≡ call_address call bitmap_offset) where
  pub bitmap_can : CanAct old.layout old.words (Load address)
  bitmap_can = look_can (record { call = call; at = at.Bitmap hold }) may (ap (λ (a : ℕ). Load a) is)

  pub bitmap_leads : {now : Row} {bitmap begun steps : ℕ}
      → now ≡ record old { words = acted old.layout old.words (Load address) }
      → bitmap ≡ got old.layout old.words (Load address) → steps ≡ begun + 1
      → LeadsTo old now call (goes_to call (at.Bitmap hold)) (loads_prints call hold bitmap) begun steps
  bitmap_leads acts given ticks =
      turn_leads (record { call = call; at = at.Bitmap hold }) may (omega arith) (ap (λ (a : ℕ). Load a) is) acts given
      ticks

-- it has the directory
pub directory_leads : {old now after : Row} (call : Call) (hold : Hold) (bitmap : ℕ) (prints : List ℕ)
    {left slots : ℕ} {from : Turn Lookup Looked} {begun steps later : ℕ}
    → LeadsTo old now call from (loads_prints call hold bitmap) begun steps
    → LoadsPrints now after call prints steps later
    → left ≡ candidate_bits bitmap prints call.print slots → slots ≡ call.view.layout.slots
    → LeadsTo old after call from (next_candidate call hold (record { bitmap = bitmap; prints = prints }) left) begun
    later
directory_leads call hold bitmap prints {left} on loaded is same =
    let directory : Directory = record { bitmap = bitmap; prints = prints } in
    leads_to (next_candidate call hold directory left) (leads_on on (loaded hold bitmap on.may))
    (ap (next_candidate call hold directory) (sym (is ∙ ap (candidate_bits bitmap prints call.print) same)))

-- A look-up that nobody disturbs comes to the target of its name.
use Rattle.std.proofs.Common.{◌≡◌, ℕ, zero, suc, ◌+◌, ◌<◌, ◌≤◌, ◌==◌, true, false, inl, inr, cond, ltb, List, get_or}
use Rattle.std.proofs.Common.{set, Some, None, refl, sym, subst, ap, ◌∙◌, arith}
use Rattle.std.proofs.lemmas.Bool.{eq-eqb}
use Rattle.std.specs.Prelude.{IsSomeAnd}
use Rattle.std.proofs.lemmas.List.{set-get_or}
use Rattle.pm_words.specs.declared.layout.Layout.{Layout}
use Rattle.pm_words.specs.declared.again.Again.TheVariants.{Moved}
use Rattle.pm_words.specs.declared.machine.Turn.{Turn}
use Rattle.pm_words.specs.declared.machine.Turn.TheVariants.{Go, Done}
use Rattle.pm_words.specs.Rows.{acted, got}
use Rattle.version_lock.specs.Versions.{kept_count, locked_word, IsWorn, is_worn_word}
use Rattle.data_node.specs.Bits.{without_live, lowest_live, candidate_bits}
use Rattle.data_node.specs.Lists.{target_from, key_of, number_of}
use Rattle.call_stages.specs.Kinds.{clock_address, version_address, status_address, word_address, prev_address}
use Rattle.call_stages.specs.declared.once.Once.TheVariants as once
use Rattle.data_list.specs.declared.target.Walked.{Walked}
use Rattle.data_list.specs.declared.target.Walked.TheVariants as walked
use Rattle.data_list.specs.declared.walk.Walk.{Walk}
use Rattle.data_list.specs.declared.walk.WalkAt.{WalkAt}
use Rattle.data_list.specs.declared.walk.WalkAt.TheVariants as walk_at
use Rattle.data_list.specs.Walks.{sighting_of, walk_from, walk_at_asks, walk_asks, walk_turned, IsWalkAt}
use Rattle.data_list.specs.Still.{Nodes, Comes, loaded, StaysOnWay}
use Rattle.version_lock.proofs.WordTests.{worn_word, fresh_word}
use Rattle.data_list.proofs.Comings.{each_comes}
use Rattle.data_list.proofs.StillWalk.{begins_on_way, walks_come_there}
use Rattle.node_ops.specs.declared.call.Call.{Call}
use Rattle.node_ops.specs.declared.lookup.Directory.{Directory}
use Rattle.node_ops.specs.declared.lookup.Hold.{Hold}
use Rattle.node_ops.specs.declared.lookup.Looked.{Looked}
use Rattle.node_ops.specs.declared.lookup.Lookup.{Lookup}
use Rattle.node_ops.specs.declared.lookup.LookupAt.{LookupAt}
use Rattle.node_ops.specs.declared.lookup.LookupAt.TheVariants as at
use Rattle.node_ops.specs.Calls.{IsCall, name_in, at_node, call_address}
use Rattle.node_ops.specs.LookupSteps.{came_by, is_spent, goes_to, ends, floored, walked_on, saw_directory}
use Rattle.node_ops.specs.LookupSteps.{next_candidate, candidate_turned, lookup_at_asks, lookup_at_turned, IsFlooring}
use Rattle.node_ops.specs.LookupSteps.{IsLookupAt}
use Rattle.node_ops.proofs.LookupLaw.{key_is}
use Rattle.index_law.specs.Facts.{list_in, version_in}
use Rattle.index_law.specs.Worlds.{facts}
use Rattle.index_law.proofs.Rows.{version_in-here, spot_in-here, status_in-here, version_in-alike, spot_in-alike}
use Rattle.index_law.proofs.Rows.{status_in-alike}
use Rattle.index_law.proofs.Noting.{line-alike}
use Rattle.index_law.proofs.Starts.{idle_law}
use Rattle.index_law.proofs.Prevs.{idle_follow, prev_at}
use Rattle.pm_words.proofs.Apart.{at-set_other}
use Rattle.pm_words.specs.Locations.{Node, Line, Volatile, Cached}
use Rattle.pm_words.specs.declared.action.Action.TheVariants.{Load, Exchange}
use Rattle.tree_floor.specs.declared.floor.Floor.{Floor}
use Rattle.node_ops.specs.search_layer.specs.Rows.{LayerWords, layer_words}
use Rattle.tree_floor.specs.Floors.{floor_asks, floor_turned}
use Rattle.node_ops.specs.search_layer.specs.Floors.{told_turn, answer_from, floor_told}
use Rattle.node_ops.specs.search_layer.proofs.FloorLemmas.{keeps_words as lone_keeps, told as floor_is_told}
use Rattle.node_ops.specs.search_layer.proofs.RowLemmas.{kept_leads_below}
use Rattle.lone_call_law.specs.There.{HasCome, nodes_in, CanWalk, StartsAt, WalksBy, IsAtNode, IsUnmoved}
use Rattle.lone_call_law.specs.There.{LookupStands, LookedStands, LooksComeThere}
use Rattle.lone_call_law.specs.There.{RestIsStill, IdleIsQuiet}
use Rattle.std.specs.Prelude.{IsSome, is_some}
use Rattle.std.specs.Prelude.{Option, Some, None}
use Rattle.pm_words.specs.Offsets.{version_offset, bitmap_offset, next_offset, anchor_offset, slot_offset, value_word}
use Rattle.pm_words.specs.Offsets.{state_offset, status_offset}
use Rattle.index_law.proofs.Places.{node_at, offset_at}

pub rest_is_still : RestIsStill
rest_is_still w rest = assumption (rest, rest.list, rest.live)

pub idle_is_quiet : IdleIsQuiet
idle_is_quiet z traced idle =
    let rest = idle_law z.world traced.lawful idle in
    record {
      quiet = rest_is_still z.world rest;
      listed = λ n within live. rest.live.listed n within live (rest.free n within);
      three = rest.live.three;
      prevs = λ n listed some. idle_follow z n traced idle listed some;
      below = traced.below;
      order = traced.order;
    }

-- what a walk is told
pub told_loaded : (l : Layout) (g : ℕ) (words : List ℕ) (walk : Walk) (at : WalkAt) → walk.node < l.nodes → IsWalkAt l g walk.key at
    → got l words (walk_at_asks l walk.node at) ≡ loaded (nodes_in l words) walk.node at
told_loaded l g words walk walk_at.Version node here = sym (version_in-here l words walk.node node)
told_loaded l g words walk (walk_at.Status version) node here = sym (status_in-here l words walk.node node)
told_loaded l g words walk (walk_at.First version) node here = sym (spot_in-here l words walk.node anchor_offset (node, omega arith) (omega arith))
told_loaded l g words walk (walk_at.Second version first) node here = sym (spot_in-here l words walk.node (anchor_offset + 1) (node, omega arith) (omega arith))
told_loaded l g words walk (walk_at.Third version first second) node here = sym (spot_in-here l words walk.node (anchor_offset + 2) (node, omega arith) (omega arith))
told_loaded l g words walk (walk_at.Next version low) node here = sym (spot_in-here l words walk.node next_offset (node, omega arith) (omega arith))
told_loaded l g words walk (walk_at.HighFirst version low next) node here = sym (spot_in-here l words next anchor_offset (here.2.within, omega arith) (omega arith))
told_loaded l g words walk (walk_at.HighSecond version low next first) node here = sym (spot_in-here l words next (anchor_offset + 1) (here.2.within, omega arith) (omega arith))
told_loaded l g words walk (walk_at.HighThird version low next first second) node here = sym (spot_in-here l words next (anchor_offset + 2) (here.2.within, omega arith) (omega arith))
told_loaded l g words walk walk_at.Prev node here = sym (prev_at l words walk.node node)

-- a walk only loads
pub walk_loads : (l : Layout) (words : List ℕ) (n : ℕ) (at : WalkAt) → acted l words (walk_at_asks l n at) ≡ words
walk_loads l words n walk_at.Version = set-get_or words (version_address l n) 0
walk_loads l words n (walk_at.Status version) = set-get_or words (status_address l n) 0
walk_loads l words n (walk_at.First version) = set-get_or words (word_address l n anchor_offset) 0
walk_loads l words n (walk_at.Second version first) = set-get_or words (word_address l n (anchor_offset + 1)) 0
walk_loads l words n (walk_at.Third version first second) = set-get_or words (word_address l n (anchor_offset + 2)) 0
walk_loads l words n (walk_at.Next version low) = set-get_or words (word_address l n next_offset) 0
walk_loads l words n (walk_at.HighFirst version low next) = set-get_or words (word_address l next anchor_offset) 0
walk_loads l words n (walk_at.HighSecond version low next first) = set-get_or words (word_address l next (anchor_offset + 1)) 0
walk_loads l words n (walk_at.HighThird version low next first second) = set-get_or words (word_address l next (anchor_offset + 2)) 0
walk_loads l words n walk_at.Prev = set-get_or words (prev_address l n) 0

-- a load leaves all words
pub loaded_unmoved : (l : Layout) (words0 words : List ℕ) (n address : ℕ) → IsUnmoved l words0 words n → IsUnmoved l words0 (acted l words (Load address)) n
loaded_unmoved l words0 words n address unmoved = subst (λ ws. IsUnmoved l words0 ws n) (sym (set-get_or words address 0)) unmoved

-- and a store of a version word leaves all but that
pub stored_unmoved : (l : Layout) (words0 words : List ℕ) (n word : ℕ) → n < l.nodes → IsUnmoved l words0 words n → IsUnmoved l words0 (set words (version_address l n) word) n
stored_unmoved l words0 words n word here unmoved =
    let stored : List ℕ = set words (version_address l n) word in
    record {
      versions = λ m other. version_in-alike l words stored m (λ there. at-set_other l words (Cached (Node n version_offset)) (Cached (Node m version_offset)) word (here, omega arith) (there, omega arith) (λ e. other (ap node_at e))) ∙ unmoved.versions m other;
      statuses = λ m. status_in-alike l words stored m (λ there. at-set_other l words (Cached (Node n version_offset)) (Volatile m status_offset) word (here, omega arith) (there, omega arith) (λ e. cc)) ∙ unmoved.statuses m;
      nexts = λ m. spot_in-alike l words stored m next_offset (λ there _. at-set_other l words (Cached (Node n version_offset)) (Cached (Node m next_offset)) word (here, omega arith) there (λ e. let no : 2 ≡ 0 = ap offset_at e in omega arith)) ∙ unmoved.nexts m;
      lines = λ c j. line-alike l words stored c j state_offset (λ there. at-set_other l words (Cached (Node n version_offset)) (Cached (Line c j state_offset)) word (here, omega arith) there (λ e. cc)) ∙ unmoved.lines c j;
    }

-- and as its lock is taken a node's version word alone changes
pub locked_unmoved : (l : Layout) (words0 words : List ℕ) (n old new : ℕ) → n < l.nodes → words ≡ words0 → IsUnmoved l words0 (acted l words (Exchange (version_address l n) old new)) n
locked_unmoved l words0 words n old new here same =
    let word : ℕ = cond (get_or words (version_address l n) 0 == old) new (get_or words (version_address l n) 0) in
    let stored : List ℕ = set words (version_address l n) word in
    subst (λ ws. IsUnmoved l ws stored n) same (record {
      versions = λ m other. version_in-alike l words stored m (λ there. at-set_other l words (Cached (Node n version_offset)) (Cached (Node m version_offset)) word (here, omega arith) (there, omega arith) (λ e. other (ap node_at e)));
      statuses = λ m. status_in-alike l words stored m (λ there. at-set_other l words (Cached (Node n version_offset)) (Volatile m status_offset) word (here, omega arith) (there, omega arith) (λ e. cc));
      nexts = λ m. spot_in-alike l words stored m next_offset (λ there _. at-set_other l words (Cached (Node n version_offset)) (Cached (Node m next_offset)) word (here, omega arith) there (λ e. let no : 2 ≡ 0 = ap offset_at e in omega arith));
      lines = λ c j. line-alike l words stored c j state_offset (λ there. at-set_other l words (Cached (Node n version_offset)) (Cached (Line c j state_offset)) word (here, omega arith) there (λ e. cc));
    })

module _ (call : Call) (sound : IsCall call) (words0 words : List ℕ) where
  open call.view use {layout as l, generation as g}

  abbrev Stands : List ℕ → Turn Lookup Looked → Type 0
  Stands words' = LookedStands l g words0 words' call

  -- the node of a floor is one of the layout's
  start_within : CanWalk l g words0 → (node : ℕ) → StartsAt l words0 (name_in call) node → node < l.nodes
  start_within can node starts = elim starts [
    | inl best ↦ kept_leads_below l (layer_words l words0 Cached) can.order best.best node best.leads
    | inr none ↦ let first : node ≡ 0 = none.0 in let some : 1 ≤ l.nodes = sound.view.layout.nodes.0 in omega arith
  ]

  -- the floor leads to where the walk begins
  floored_there : (words' : List ℕ) (turns : ℕ) (turn : Turn Floor ℕ) → CanWalk l g words0 → words' ≡ words0
      → IsSomeAnd (told_turn turn (answer_from turns (layer_words l words0 Cached))) (StartsAt l words0 (name_in call)) → Stands words' (floored call turn)
  floored_there words' turns (Go next) can same answers = (same, record { turns = turns; answers = answers })
  floored_there words' turns (Done node) can same starts =
      let f : Nodes = nodes_in l words0 in
      let walk : Walk = walk_from l g node call.name in
      let comes = each_comes l g f (number_of call.name) node can.quiet (start_within can node starts) in (
        same,
        record {
          hops = comes.0;
          walks = record { start = node; begins = starts; comes = subst (λ (k : ℕ). Comes l f k node comes.0) (key_is call sound) comes.1 };
          way = begins_on_way l g f comes.0 walk can.quiet.quiet sound.view.layout.nodes.0 refl refl comes.1;
        },
      )

  floor_there : (floor : Floor) (x : ℕ) → IsFlooring call floor → CanWalk l g words0 → words ≡ words0 → (turns : ℕ) → IsSomeAnd (answer_from turns (layer_words l words0 Cached) floor) (StartsAt l words0 (name_in call))
      → x ≡ got l words (floor_asks floor) → Stands (acted l words (floor_asks floor)) (floored call (floor_turned floor x))
  floor_there floor x here can same zero answers told = absurd answers
  floor_there floor x here can same (suc turns) answers told =
      let w : LayerWords = layer_words l words0 Cached in
      let loads : floor_told w floor ≡ x =
      sym (subst (λ (k : Layout). got k words0 (floor_asks floor) ≡ floor_told (layer_words k words0 Cached) floor) here.layout (floor_is_told floor words0 here.sound))
      ∙ ap (λ (ws : List ℕ). got l ws (floor_asks floor)) (sym same) ∙ sym told in
      floored_there (acted l words (floor_asks floor)) turns (floor_turned floor x) can (lone_keeps l words floor ∙ same)
      (subst (λ (n : ℕ). IsSomeAnd (told_turn (floor_turned floor n) (answer_from turns w)) (StartsAt l words0 (name_in call))) loads answers)

  walked_there : (words' : List ℕ) (hops : ℕ) (turn : Turn Walk Walked) → WalksBy l words0 (name_in call) hops → words' ≡ words0 → StaysOnWay l (nodes_in l words0) hops call.name turn → Stands words' (walked_on call turn)
  walked_there words' hops (Go walk) walks same way = (same, record { hops = hops; walks = walks; way = way })
  walked_there words' hops (Done (walked.Again why)) walks same way = absurd way
  walked_there words' hops (Done (walked.Target target)) walks same way = by call.limit refl
    where
      node_is : target.node ≡ target_from 0 (list_in l words0) (key_of (name_in call))
      node_is = way.0 ∙ ap (target_from 0 (list_in l words0)) (key_is call sound)

      by : (limit : Option ℕ) → call.limit ≡ limit → Stands words' (came_by limit call target)
      by None reads = (same, record { node = node_is; hops = subst (WalksBy l words0 (name_in call)) (sym way.1) walks; unworn = λ some. absurd (let no : false ≡ true = sym (ap is_some reads) ∙ some in cc) }, way.2)
      by (Some most) writes =
          elim (is_worn_word target.version g) as (λ b. is_worn_word target.version g ≡ b → Stands words'
          (cond b (ends (once.Worn target.node target.version)) (goes_to (at_node call target.node target.hops) (at.Lock (sighting_of target) (locked_word g (kept_count target.version g)))))) [
            | true ↦ λ worn. (ap is_some writes, node_is, way.2, worn_word target.version g worn)
            | false ↦ λ fresh. (same, record { node = node_is; hops = subst (WalksBy l words0 (name_in call)) (sym way.1) walks; unworn = λ some worn. fresh_word target.version g fresh (subst (λ v. IsWorn v g) (sym way.2) worn) }, way.2)
          ] refl

  candidate_there : (words' : List ℕ) (hold : Hold) (directory : Directory) (left : ℕ) → HasCome call.limit l words0 words' call hold.locked → Stands words' (next_candidate call hold directory left)
  candidate_there words' hold directory left here =
      elim (lowest_live left) as (λ o. Stands words' (candidate_turned call hold directory left o)) [
        | Some slot ↦ here
        | None ↦ here
      ]

  -- a load leaves all as it is
  loaded_there : (address : ℕ) → IsAtNode l words0 call × IsUnmoved l words0 words call.node → IsAtNode l words0 call × IsUnmoved l words0 (acted l words (Load address)) call.node
  loaded_there address stands = (stands.0, loaded_unmoved l words0 words call.node address stands.1)

  come_there : (limit : Option ℕ) (word address : ℕ) → HasCome limit l words0 words call word → HasCome limit l words0 (acted l words (Load address)) call word
  come_there None word address here = (here.0, set-get_or words address 0 ∙ here.1, here.2)
  come_there (Some most) word address here = loaded_there address here

  come_locked : (limit : Option ℕ) (words' : List ℕ) (word : ℕ) → IsSome limit → IsAtNode l words0 call × IsUnmoved l words0 words' call.node → HasCome limit l words0 words' call word
  come_locked None words' word some here = absurd (let no : false ≡ true = some in cc)
  come_locked (Some most) words' word some here = here

  come_read : (limit : Option ℕ) (words' : List ℕ) (word : ℕ) → limit ≡ None → IsAtNode l words0 call → words' ≡ words0 → word ≡ version_in l words0 call.node → HasCome limit l words0 words' call word
  come_read None words' word none here same is = (here, same, is)
  come_read (Some most) words' word none here same is = absurd (let no : true ≡ false = ap is_some none in cc)

  pub at_there : (at : LookupAt) (x : ℕ) → IsLookupAt call at → CanWalk l g words0 → LookupStands l words0 words call at → x ≡ got l words (lookup_at_asks call at)
      → Stands (acted l words (lookup_at_asks call at)) (lookup_at_turned call at x)
  at_there (at.Floor floor) x here still stands told = floor_there floor x here still stands.0 stands.1.turns stands.1.answers told
  at_there (at.Walk walk) x here still stands told =
      let same_layout : walk.layout ≡ l = here.layout in
      let asks : walk_asks walk ≡ walk_at_asks l walk.node walk.at = ap (λ (k : Layout). walk_at_asks k walk.node walk.at) same_layout in
      let node : walk.node < l.nodes = subst (λ (k : Layout). walk.node < k.nodes) same_layout here.sound.node in
      let fields : IsWalkAt l g walk.key walk.at = subst (λ (q : Layout × ℕ). IsWalkAt q.0 q.1 walk.key walk.at) (λ i. (here.layout i, here.generation i)) here.sound.here in
      let loads : x ≡ loaded (nodes_in l words0) walk.node walk.at =
      told ∙ ap (got l words) asks ∙ ap (λ (ws : List ℕ). got l ws (walk_at_asks l walk.node walk.at)) stands.0
      ∙ told_loaded l g words0 walk walk.at node fields in
      let hops = stands.1.hops in
      let turn = walks_come_there l g (nodes_in l words0) hops walk still.quiet.quiet here.layout here.generation stands.1.way in
      let keyed : StaysOnWay l (nodes_in l words0) hops call.name (walk_turned walk x) =
      subst (λ y. StaysOnWay l (nodes_in l words0) hops call.name (walk_turned walk y)) (sym loads)
      (subst (λ k. StaysOnWay l (nodes_in l words0) hops k (walk_turned walk (loaded (nodes_in l words0) walk.node walk.at))) here.key turn) in
      walked_there (acted l words (walk_asks walk)) hops (walk_turned walk x) stands.1.walks (ap (acted l words) asks ∙ walk_loads l words walk.node walk.at ∙ stands.0) keyed
  at_there (at.Read sight) x here still stands told =
      come_read call.limit (acted l words (lookup_at_asks call (at.Read sight))) sight.version here.reads stands.1 (set-get_or words (clock_address l) 0 ∙ stands.0) stands.2
  at_there (at.Lock sight word) x here still stands told =
      let node : call.node < l.nodes = sound.node in
      let seen : x ≡ sight.version = told ∙ ap (λ (ws : List ℕ). get_or ws (version_address l call.node) 0) stands.0 ∙ sym (version_in-here l words0 call.node node) ∙ sym stands.2 in
      subst (λ b. Stands (acted l words (lookup_at_asks call (at.Lock sight word))) (cond b (goes_to call (at.Clock word)) (ends (once.Again (Moved call.node sight.version x)))))
      (sym (eq-eqb x sight.version seen)) (stands.1, locked_unmoved l words0 words call.node sight.version word node stands.0)
  at_there (at.Clock word) x here still was told =
      let stands = loaded_there (clock_address l) was in
      elim (is_spent call.limit x) as (λ b. Stands (acted l words (lookup_at_asks call (at.Clock word)))
      (cond b (goes_to call (at.Spent (record { locked = word; clock = x }))) (goes_to call (at.Bitmap (record { locked = word; clock = x }))))) [
        | true ↦ stands
        | false ↦ come_locked call.limit (acted l words (lookup_at_asks call (at.Clock word))) word here.0 stands
      ]
  at_there (at.Spent hold) x here still stands told = (here.1, stands.0)
  at_there (at.Bitmap hold) x here still stands told = come_there call.limit hold.locked (call_address call bitmap_offset) stands
  at_there (at.Prints hold bitmap prints k) x here still was told =
      let stands = come_there call.limit hold.locked (call_address call (8 + k)) was in
      let after = acted l words (lookup_at_asks call (at.Prints hold bitmap prints k)) in
      let directory : Directory = record { bitmap = bitmap; prints = set prints k x } in
      elim (ltb (k + 1) 8) as (λ b. Stands after (cond b (goes_to call (at.Prints hold bitmap (set prints k x) (k + 1))) (saw_directory call hold directory))) [
        | true ↦ stands
        | false ↦ candidate_there after hold directory (candidate_bits bitmap (set prints k x) call.print l.slots) stands
      ]
  at_there (at.Name hold directory left slot k) x here still was told =
      let stands = come_there call.limit hold.locked (call_address call (slot_offset slot k)) was in
      let after = acted l words (lookup_at_asks call (at.Name hold directory left slot k)) in
      elim (x == get_or call.name k 0) as (λ b. Stands after (cond b
      (cond (ltb (k + 1) 3) (goes_to call (at.Name hold directory left slot (k + 1))) (goes_to call (at.Value hold directory slot)))
      (next_candidate call hold directory (without_live left slot)))) [
        | true ↦ elim (ltb (k + 1) 3) as (λ b. Stands after (cond b (goes_to call (at.Name hold directory left slot (k + 1))) (goes_to call (at.Value hold directory slot)))) [
          | true ↦ stands
          | false ↦ stands
        ]
        | false ↦ candidate_there after hold directory (without_live left slot) stands
      ]
  at_there (at.Value hold directory slot) x here still stands told = come_there call.limit hold.locked (call_address call (slot_offset slot value_word)) stands

pub looks_come_there : LooksComeThere
looks_come_there lookup words0 words x sound still stands told = at_there lookup.call sound.call words0 words lookup.at x sound.here still stands told

-- The store by which a turn makes a GONE node FREE, which nobody holds.
use Rattle.std.proofs.Common.{◌≡◌, ◌≢◌, ℕ, ◌<◌, ⊎_elim, Bool, cond, List, [], slice_set, refl, sym, ap, ◌∙◌, subst, arith}
use Rattle.std.proofs.lemmas.Bool.{cases_eq, eq-eqb, ne_eqb}
use Rattle.std.proofs.lemmas.List.{append-nil}
use Rattle.pm_words.specs.Codes.{gone_status, free_status, live_status}
use Rattle.pm_words.specs.declared.layout.Layout.{Layout}
use Rattle.pm_words.specs.Locations.{Location, Clock, Volatile, Cached, HasLocation, address_of}
use Rattle.pm_words.specs.Rows.{IsRow}
use Rattle.pm_words.proofs.Apart.{at-set_other}
use Rattle.version_lock.specs.Versions.{IsFree}
use Rattle.call_stages.specs.Stages.{Held, Sight, Stage, HoldsNode}
use Rattle.index_law.specs.Facts.{Facts}
use Rattle.index_law.specs.Worlds.{facts}
use Rattle.index_law.specs.Lawful.{Stands, SureSaw, SureEyes, SureWears, Sure, IsList, AreLive, AreKnown, AreSettled, AreFreeOrHeld, AreSure, AreBacked, Lawful}
use Rattle.index_law.specs.Twins.{BacksStage, AreDurable}
use Rattle.index_law.specs.Whole.{Whole, IsWhole}
use Rattle.index_law.proofs.Backing.{backs_steady}
use Rattle.index_law.proofs.Bystanders.{IsLater, IsSteady, if_some, keeps_by, steady-status, saw_on, eyes_on}
use Rattle.index_law.proofs.Locks.{own_of}
use Rattle.index_law.proofs.Noting.{store_leaves}
use Rattle.index_law.proofs.Prevs.{store_prev}
use Rattle.index_law.proofs.Rows.{with_status, facts-status}
use Rattle.index_law.proofs.Twins.{IsNearer, nearer, store_closer, closer_stage, closer_durable, closer_versions, closer_front, cached_front}
use Rattle.index_law.proofs.Versions.{unfree}
use Rattle.index_law.proofs.Whole.{traced_fewer, joint_same}
use Rattle.index_law.specs.Lawful.{IsRead, SureReads}
use Rattle.std.specs.Prelude.{IfSome, Option}
use Rattle.pm_words.specs.Offsets.{status_offset}

-- the facts with a node that is FREE instead of GONE
module _ (l : Layout) (g : ℕ) (f : Facts) (n : ℕ) (gone : f.status n ≡ gone_status) (free : IsFree (f.version n) g) where
  abbrev freed : Facts
  freed = with_status f n 0

  freed_here : (m : ℕ) → m ≡ n → freed.status m ≡ free_status
  freed_here m e = ap (λ b. cond b 0 (f.status m)) (eq-eqb m n e)

  freed_else : (m : ℕ) → m ≢ n → freed.status m ≡ f.status m
  freed_else m other = ap (λ b. cond b 0 (f.status m)) (ne_eqb m n other)

  -- where a status isn't FREE, it was that before
  pub freed_was : (m x : ℕ) → x ≢ 0 → freed.status m ≡ x → f.status m ≡ x
  freed_was m x some_status is = ⊎_elim
      (λ (e : m ≡ n). absurd (some_status (sym is ∙ freed_here m e)))
      (λ other. sym (freed_else m other) ∙ is)
      (cases_eq m n)

  live_freed : AreLive l g f → AreLive l g freed
  live_freed live = record {
    live = λ m listed. freed_else m (λ e. let no : 1 ≡ 2 = sym (live.live m listed) ∙ ap f.status e ∙ gone in omega arith) ∙ live.live m listed;
    listed = λ m here is unlocked. live.listed m here (freed_was m live_status (λ e. omega arith) is) unlocked;
    leads = λ m here is. live.leads m here (freed_was m live_status (λ e. omega arith) is);
    three = λ m here. ⊎_elim
        (λ (e : m ≡ n). let is = freed_here m e in omega arith)
        (λ other. let is = freed_else m other in let most = live.three m here in omega arith)
        (cases_eq m n);
  }

  later_freed : IsLater f freed
  later_freed = record { base = refl; more = []; few = omega arith; history = sym (append-nil f.history) }

  saw_freed : (m v w : ℕ) (k : Sight) → SureSaw l g f m v w k → SureSaw l g freed m v w k
  saw_freed m v w k knows = saw_on l g f freed m v w k k knows.seen knows.leads (λ is.
      let was = knows.stands is in record { listed = was.listed; sees = was.sees; leads = was.leads }) knows

  eyes_freed : (h : Held) (m v u : ℕ) (is_free : Bool) → SureEyes l g f h m v u is_free → SureEyes l g freed h m v u is_free
  eyes_freed h m v u is_free knows = eyes_on l g f freed h m v u is_free is_free knows.seen
      (λ is told. ⊎_elim (λ (e : m ≡ n). freed_here m e) (λ other. freed_else m other ∙ knows.stands is told) (cases_eq m n)) knows

  wears_freed : (m v : ℕ) → SureWears l g f m v → SureWears l g freed m v
  wears_freed m v knows = record { here = knows.here; free = knows.free; worn = knows.worn; stands = knows.stands }

  read_freed : (since m : ℕ) (h : Held) → IsRead l f since m h → IsRead l freed since m h
  read_freed since m h knows = assumption knows

  reads_freed : (since m v : ℕ) (k : Sight) (h : Option Held) → SureReads l g f since m v k h → SureReads l g freed since m v k h
  reads_freed since m v k h knows =
      let stands : f.version m ≡ v → Stands freed m k = λ is. assumption (knows.stands is) in
      let read : f.version m ≡ v → IfSome h (IsRead l freed since m) = λ is. if_some (IsRead l f since m) (IsRead l freed since m) h (read_freed since m) (knows.read is) in
      assumption (knows, stands, read)

  -- who holds a node holds another one
  steady_freed : (caller index since : ℕ) (u : Stage) → Sure l g f caller index since u → (m : ℕ) → HoldsNode u m → IsSteady l f freed m
  steady_freed caller index since u knows m holds = steady-status l f n 0 m
      (λ e. unfree (f.version m) g (own_of l g f caller index since u m holds knows) (subst (λ k. IsFree (f.version k) g) (sym e) free))

  sure_freed : (caller index since : ℕ) (u : Stage) → Sure l g f caller index since u → Sure l g freed caller index since u
  sure_freed caller index since u knows =
      keeps_by l g f freed later_freed saw_freed eyes_freed wears_freed reads_freed caller index since u (steady_freed caller index since u knows) knows

  settled_freed : AreSettled l g f → AreSettled l g freed
  settled_freed settled m listed unlocked = let was = settled m listed unlocked in record { means = was.means; stays = was.stays }

  backs_freed : (words : List ℕ) (caller index since : ℕ) (u : Stage) → Sure l g f caller index since u → BacksStage l f words u → BacksStage l freed words u
  backs_freed words caller index since u knows = backs_steady l g f freed later_freed words u (steady_freed caller index since u knows)

abbrev offset_at : Location → ℕ
offset_at (Volatile n o) = o
offset_at _ = 0

-- the index with it
module _ (z : Whole) (n : ℕ) (here : n < z.world.layout.nodes) (gone : (facts z.world).status n ≡ gone_status) (free : IsFree ((facts z.world).version n) z.world.generation)
    (row : IsRow z.world.layout z.world.words) where
  open z.world use {layout as l, generation as g, words}

  abbrev f : Facts
  f = facts z.world

  abbrev p : Location
  p = Volatile n status_offset

  abbrev stored : List ℕ
  stored = slice_set words (address_of l p) 0

  has : HasLocation l (Volatile n status_offset)
  has = (here, omega arith)

  same : facts (record (z.world) { words = stored }) ≡ with_status f n 0
  same = facts-status l words z.world.base z.world.history n 0 row.whole here

  closer : IsNearer l words stored
  closer = nearer l words stored (store_closer l words p 0 has (λ v e. cc))

  lawful_freed : IsRow l stored → Lawful z.world → Lawful (record (z.world) { words = stored })
  lawful_freed row' lawful = record {
    named = lawful.named;
    list = subst (IsList l) (sym same) (record { chain = lawful.list.chain; lowest = lawful.list.lowest; rise = lawful.list.rise; within = lawful.list.within; named = lawful.list.named });
    live = subst (AreLive l g) (sym same) (live_freed l g f n gone free lawful.live);
    run = lawful.run;
    row = row';
    clock = at-set_other l words p Clock 0 has tt (λ e. cc) ∙ lawful.clock;
    versions = subst (AreKnown l g) (sym same) lawful.versions;
    sure = subst (λ φ. AreSure l g φ z.world.parties) (sym same) (λ i q there. sure_freed l g f n gone free q.caller q.index q.since q.stage (lawful.sure i q there));
    begun = lawful.begun;
    alone = lawful.alone;
    settled = subst (AreSettled l g) (sym same) (settled_freed l g f n gone free lawful.settled);
    held = subst (λ φ. AreFreeOrHeld l g φ z.world.parties) (sym same) lawful.held;
    backed = subst (λ φ. AreBacked l φ stored z.world.parties) (sym same) (λ i q there. backs_freed l g f n gone free stored q.caller q.index q.since q.stage (lawful.sure i q there)
        (closer_stage l words stored z.world.base z.world.history closer q.stage (lawful.backed i q there)));
    durable = subst (λ φ. AreDurable l g φ stored) (sym same) (closer_durable l words stored z.world.base z.world.history closer g lawful.durable);
    durable_versions = closer_versions l words stored z.world.base z.world.history closer g lawful.versions lawful.durable_versions;
    front = cached_front l g words stored (λ w there apart. at-set_other l words p (Cached w) 0 has there (λ e. cc)) lawful.front;
    durable_front = closer_front l g words stored closer lawful.front lawful.durable_front;
  }

  pub freed_whole : IsRow l stored → IsWhole z → IsWhole (record z { world = record (z.world) { words = stored } })
  freed_whole row' whole =
      let lawful = lawful_freed row' whole.joint.lawful in
      record {
        joint = joint_same (record { world = z.world; lines = z.lines }) stored whole.joint lawful (store_leaves l words p 0 has (λ c j o. (λ e. cc, λ e. cc)));
        traced = traced_fewer (record { world = z.world; debts = z.debts }) stored whole.traced lawful
            (ap (λ (φ : Facts). φ.list) same) (ap (λ (φ : Facts). φ.now) same)
            (λ m is. freed_was l g f n gone free m gone_status (λ e. omega arith) (ap (λ (φ : Facts). φ.status m) (sym same) ∙ is))
            (λ m. store_prev l words p 0 has (λ k e. let no : 1 ≡ 0 = ap offset_at e in omega arith) m);
      }

-- What stays the same while a call is made.
use Rattle.std.specs.Prelude.{◌≡◌, ℕ, ◌^◌, ◌<◌, ◌≤◌, List, Option, IfSome}
use Rattle.cat_key.specs.Names.{words_of, bytes_of, fingerprint_of, IsPacked}
use Rattle.pm_words.specs.declared.action.Action.{Action}
use Rattle.version_lock.specs.Versions.{IsLockWord}
use Rattle.call_stages.specs.Kinds.{Told, word_address}
use Rattle.call_stages.specs.declared.view.View.{View}
use Rattle.call_stages.specs.Views.{IsView}
use Rattle.node_ops.specs.declared.call.Call.{Call}

-- the call works on a node of its layout, its words are those of a name, and its fingerprint is that name's
pub record IsCall (call : Call) : Type 0 where
  pub view : IsView call.view
  pub node : call.node < call.view.layout.nodes
  pub packed : IsPacked call.name
  pub print : call.print ≡ fingerprint_of (bytes_of call.name)
  pub limit : IfSome call.limit (λ most. most ≤ 2 ^ 62)

-- a call that begins
abbrev pub new_call : View → List ℕ → Option ℕ → Call
new_call view name limit = record {
  view = view;
  node = 0;
  hops = 0;
  name = words_of name;
  print = fingerprint_of name;
  limit = limit;
}

-- the call once it is at a node
abbrev pub at_node : Call → ℕ → ℕ → Call
at_node call node hops = record call { node = node; hops = hops }

-- they are the same call, maybe at another node
abbrev pub IsSame : Call → Call → Type 0
IsSame before after = after ≡ at_node before after.node after.hops

-- the name that the call is about
abbrev pub name_in : Call → List ℕ
name_in call = bytes_of call.name

-- the numbers that its action may give
abbrev pub IsToldOf : Call → Action → ℕ → Type 0
IsToldOf call action got = Told call.view.layout call.view.generation action got

-- A machine inside a call that holds its node: it has the call's view, is of that node with that lock, and keeps its
-- own fields; beside them the call knows more.
pub record IsInside (of : Call) (lock : ℕ) (its : View) (own held : ℕ) (Here More : Type 0) : Type 0 where
  pub call : IsCall of
  pub locked : IsLockWord lock
  pub more : More
  pub here : Here
  pub view : its ≡ of.view
  pub node : own ≡ of.node
  pub word : held ≡ lock

-- the address of a word of the call's node
abbrev pub call_address : Call → ℕ → ℕ
call_address call offset = word_address call.view.layout call.node offset

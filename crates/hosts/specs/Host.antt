-- What a host means: which names are outer, which references have a type, and which switches are counted.
use Rattle.std.specs.Prelude.{◌≡◌, ℕ, Bool, true, false, cond, List, Some, None, Ok, Option, Result, ◌≢◌}
use Rattle.packed.specs.declared.value_type.ValueType.{ValueType}
use Rattle.packed.specs.declared.switch.Switch.{Switch}
use Rattle.packed.specs.declared.switch.Switch.TheVariants.{PropertyReads, PropertyWrites, UnknownGlobals}
use Rattle.packed.specs.declared.refusal.Refusal.{Refusal}
use Rattle.packed.specs.declared.refusal.Reason.TheVariants.{BadSwitch}
use Rattle.packed.specs.Reading.{refused}
use Rattle.packed.specs.Switches.{switch_of}
use Rattle.hosts.specs.declared.switches.Switches.{Switches}
use Rattle.hosts.specs.declared.side_effects.context.PropertyReadSideEffects as property-reads

-- outer: of a name and its reference number, 0 for none. typed: the type known of a reference
pub record Host : Type 0 where
  pub outer : List ℕ → ℕ → Bool
  pub typed : ℕ → Option ValueType
  pub switches : Switches

-- 0 stands for no reference, and has no type
abbrev pub Untyped : Host → Type 0
Untyped h = h.typed 0 ≡ None

abbrev pub all_counted : Switches
all_counted = record { reads = true; writes = true; unknown_globals = true }

abbrev pub reads_of : Switches → property-reads.PropertyReadSideEffects
reads_of s = cond s.reads property-reads.TheVariants.All property-reads.TheVariants.None

-- the switches with this one not counted
abbrev pub turned : Switch → Switches → Switches
turned PropertyReads s = record { reads = false; writes = s.writes; unknown_globals = s.unknown_globals }
turned PropertyWrites s = record { reads = s.reads; writes = false; unknown_globals = s.unknown_globals }
turned UnknownGlobals s = record { reads = s.reads; writes = s.writes; unknown_globals = false }

-- the host with this switch not counted, and all other answers as they were
abbrev pub loosened : Switch → Host → Host
loosened n h = record { outer = h.outer; typed = h.typed; switches = turned n h.switches }

-- the call: a number that is no switch's is refused at 0 and alters nothing
abbrev pub loosen_answer : Option Switch → Result (Unit {0}) Refusal
loosen_answer (Some s) = Ok tt
loosen_answer None = refused BadSwitch 0

abbrev pub loosen_host : Option Switch → Host → Host
loosen_host (Some s) h = loosened s h
loosen_host None h = h

pub record Loosen (number : ℕ) (before after : Host) (r : Result (Unit {0}) Refusal) : Type 0 where
  pub answers : r ≡ loosen_answer (switch_of number)
  pub host : after ≡ loosen_host (switch_of number) before

abbrev pub counts : Switch → Switches → Bool
counts PropertyReads s = s.reads
counts PropertyWrites s = s.writes
counts UnknownGlobals s = s.unknown_globals

-- to loosen a switch makes it not counted, also a second time, and alters no other answer
pub record Loosening : Type 0 where
  pub off : (s : Switch) (h : Host) → counts s (loosened s h).switches ≡ false
  pub again : (s : Switch) (h : Host) → loosened s (loosened s h) ≡ loosened s h
  pub others : (s t : Switch) (h : Host) → (s ≢ t) → counts t (loosened s h).switches ≡ counts t h.switches
  pub outer : (s : Switch) (h : Host) → (loosened s h).outer ≡ h.outer
  pub typed : (s : Switch) (h : Host) → (loosened s h).typed ≡ h.typed

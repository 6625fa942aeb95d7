-- What is known of a plan: a read stays on the map and within what its port carries, and a write goes to a writable field of the device or of a
-- sensor and is short. What a plan writes doesn't depend on the port. Assumes nothing.
use mathlib.Core.Path.{◌≡◌, refl, sym, ap, subst, ◌∙◌}
use mathlib.Core.Bool.{Bool, true, false, cond}
use lib.Dec.{eqb}
use mathlib.Core.List.{List}
use Prim.Native.Nat.{ℕ, ◌+◌, ◌/◌, ◌%◌, ◌≤◌}
use native.Mathlib.Omega.{arith}
use lib.ListN.{length}
use Rattle.std.specs.Prelude.{Option, Some, None, Result, Ok, Err}
use Rattle.floats.proofs.Bools.{choose}
use Rattle.ports.specs.Ports.{limits}
use Rattle.ports.specs.declared.Port.{Port}
use Rattle.ports.proofs.Most.{registers_most}
use Rattle.refusals.specs.declared.codes.Code.{Code}
use Rattle.refusals.specs.declared.codes.Code.TheVariants.{ReadOnly as ReadOnlyCode}
use Rattle.modbus.specs.Request.{request_of}
use Rattle.modbus.specs.declared.Header.{Header}
use Rattle.modbus.specs.declared.Request.{Request}
use Rattle.modbus.specs.declared.Request.TheVariants.{Read, Write}
use Rattle.modbus.proofs.Requests.{InRange, in_range, registers_aside, IsRead, is_read}
use Rattle.fields.specs.Fields.{is_read_only, field_at, all_found, span_of}
use Rattle.fields.specs.declared.Access.TheVariants.{ReadOnly}
use Rattle.fields.specs.declared.Field.{Field}
use Rattle.fields.proofs.Computed.{writable_access}
use Rattle.fields.proofs.Registers.{whole_row}
use Rattle.fields.proofs.Runs.{all_found_ends, all_found_block}
use Rattle.fields.proofs.Spans.{Says, span_says}
use Rattle.fields.proofs.Writable.{found_owner, device_written_lem, two_words}
use Rattle.plans.specs.Plans.{target_in, target_of, read_plan_in, read_plan, write_plan_in, write_plan, request_plan, plan_in, judged_on, plan_of}
use Rattle.plans.specs.declared.Plan.{Plan}
use Rattle.plans.specs.declared.Plan.TheVariants.{Bad, Foreign, BroadcastRead, Refused, Reading, Writing}

-- a field that a write goes to: the register where it begins, and whose it is
pub record Located (count owner : ℕ) (f : Field) : Type 0 where
  pub register : ℕ
  pub owner_is : register / 100 ≡ owner
  pub field : field_at register ≡ Some f
  pub begins : f.offset ≡ register % 100
  pub all : f.words ≡ count
  pub writable : f.access ≡ ReadOnly → ⊥
  pub owner_most : owner ≤ 4
  pub words_most : f.words ≤ 2
  -- the device's is the technician's number
  pub device : owner ≡ 0 → f.offset ≡ 9

pub record Reads (registers start count : ℕ) : Type 0 where
  pub least : 1 ≤ count
  pub most : count ≤ registers
  pub ends : start + count ≤ 500
  pub block : start % 100 + count ≤ 100

pub record Writes (body : List ℕ) (owner : ℕ) (f : Field) : Type 0 where
  pub located : Located f.words owner f
  pub long : 6 ≤ length body
  pub short : length body ≤ 11

-- where a read names so many registers at most
abbrev pub FactsOf : ℕ → List ℕ → Plan → Type 0
FactsOf registers body Bad = Unit {0}
FactsOf registers body Foreign = Unit {0}
FactsOf registers body BroadcastRead = Unit {0}
FactsOf registers body (Refused code) = Unit {0}
FactsOf registers body (Reading start count) = Reads registers start count
FactsOf registers body (Writing owner f value) = Writes body owner f

-- by whichever port
abbrev pub Facts : List ℕ → Plan → Type 0
Facts = FactsOf 125

-- fewer registers are also at most so many
widened : (m : ℕ) (body : List ℕ) (p : Plan) → m ≤ 125 → FactsOf m body p → Facts body p
widened m body Bad l f = f
widened m body Foreign l f = f
widened m body BroadcastRead l f = f
widened m body (Refused code) l f = f
widened m body (Reading start count) l f = record { least = f.least; most = omega (arith, f.most); ends = f.ends; block = f.block }
widened m body (Writing owner field value) l f = f

-- those of a plan that may be refused
abbrev FactsIn : ℕ → List ℕ → Result Plan Code → Type 0
FactsIn registers body (Ok p) = FactsOf registers body p
FactsIn registers body (Err code) = Unit {0}

plan_in_facts : (m : ℕ) (body : List ℕ) (x : Result Plan Code) → FactsIn m body x → FactsOf m body (plan_in x)
plan_in_facts m body (Ok p) f = f
plan_in_facts m body (Err code) f = tt

-- ---- the field of a write

abbrev Fit : ℕ → ℕ → Result Field Code → Type 0
Fit count owner (Err code) = Unit {0}
Fit count owner (Ok f) = Located count owner f

module _ (start count : ℕ) where
  span_fit : (x : Result (Option Field) Code) → Says start count x → Fit count (start / 100) (target_in x)
  span_fit (Ok (Some f)) s =
      choose (Fit count (start / 100)) (is_read_only f.access) (Err ReadOnlyCode) (Ok f) (λ t. tt)
      (λ t.
      let w = whole_row start count f s.1 in
      let n = writable_access f.access t in
      record {
        register = start;
        owner_is = refl;
        field = w.field;
        begins = w.begins;
        all = w.all;
        writable = n;
        owner_most = found_owner start f w.field;
        words_most = two_words start f w.field;
        device = device_written_lem start f w.field n;
      })
  span_fit (Ok None) s = tt
  span_fit (Err code) s = tt

  target_fit : Fit count (start / 100) (target_of start count)
  unfolding target_of
  target_fit = span_fit (span_of start count) (span_says start count)

-- ---- the plan

module _ (m : ℕ) (body : List ℕ) where
  read_facts : (start count : ℕ) → 1 ≤ count → count ≤ m → FactsIn m body (read_plan start count)
  unfolding read_plan
  read_facts start count h k = go (span_of start count) (span_says start count)
    where
      reads : all_found start count ≡ true → Reads m start count
      reads e = record { least = h; most = k; ends = all_found_ends start count e h; block = all_found_block start count e }

      go : (x : Result (Option Field) Code) → Says start count x → FactsIn m body (read_plan_in start count x)
      go (Ok (Some f)) s = reads s.0
      go (Ok None) s = reads s
      go (Err code) s = tt

  request_facts : (r : Result Request Code) → InRange m body r → FactsIn m body (request_plan r)
  unfolding write_plan
  request_facts (Err code) h = tt
  request_facts (Ok (Read start count)) h = read_facts start count h.least h.most
  request_facts (Ok (Write start count value)) h = go (target_of start count) (target_fit start count)
    where
      go : (t : Result Field Code) → Fit count (start / 100) t → FactsIn m body (write_plan_in start value t)
      go (Err code) l = tt
      go (Ok f) l =
          record {
            located = subst (λ (n : ℕ). Located n (start / 100) f) (sym l.all) l;
            long = h.long;
            short = omega (arith, h.short, l.all, l.words_most);
          }

-- whatever a body asks for has the facts of its plan, by its port
pub port_facts : (own : ℕ) (port : Port) (h : Header) (body : List ℕ) → FactsOf (limits port).registers body (plan_of own port h body)
unfolding plan_of
port_facts own port h body =
    let m = (limits port).registers in
    let p = judged_on port h body in
    let r = plan_in_facts m body _ (request_facts m body (request_of m h.function body) (in_range m body h.function)) in
    choose (FactsOf m body) (eqb h.address 0) _ _ (λ z. choose (FactsOf m body) (eqb h.function 3) BroadcastRead p (λ t. tt) (λ t. r))
    (λ z. choose (FactsOf m body) (eqb h.address own) p Foreign (λ t. r) (λ t. tt))

-- and those of whichever port
pub plan_facts : (own : ℕ) (port : Port) (h : Header) (body : List ℕ) → Facts body (plan_of own port h body)
plan_facts own port h body = widened (limits port).registers body (plan_of own port h body) (registers_most port) (port_facts own port h body)

-- the facts of a plan that is known
pub facts_of : (own : ℕ) (port : Port) (h : Header) (body : List ℕ) {p : Plan} → plan_of own port h body ≡ p → Facts body p
facts_of own port h body e = subst (Facts body) e (plan_facts own port h body)

-- ---- what is written

-- a plan without what is counted and answered: a write, or nothing
abbrev pub write_in_plan : Plan → Plan
write_in_plan Bad = Bad
write_in_plan Foreign = Bad
write_in_plan BroadcastRead = Bad
write_in_plan (Refused code) = Bad
write_in_plan (Reading start count) = Bad
write_in_plan (Writing owner f value) = Writing owner f value

-- a long body writes nothing
pub long_writes_none : (m : ℕ) (body : List ℕ) (p : Plan) → FactsOf m body p → 12 ≤ length body → write_in_plan p ≡ Bad
long_writes_none m body Bad f l = refl
long_writes_none m body Foreign f l = refl
long_writes_none m body BroadcastRead f l = refl
long_writes_none m body (Refused code) f l = refl
long_writes_none m body (Reading start count) f l = refl
long_writes_none m body (Writing owner field value) f l = absurd (omega (arith, f.short))

-- nor does a read
read_writes_none : (r : Result Request Code) → IsRead r → write_in_plan (plan_in (request_plan r)) ≡ Bad
unfolding read_plan
read_writes_none (Err code) h = refl
read_writes_none (Ok (Read start count)) h = go (span_of start count)
  where
    go : (x : Result (Option Field) Code) → write_in_plan (plan_in (read_plan_in start count x)) ≡ Bad
    go (Ok x) = refl
    go (Err code) = refl
read_writes_none (Ok (Write start count value)) h = absurd h

-- what a body writes is the same by each port
pub ports_write : (own : ℕ) (p q : Port) (h : Header) (body : List ℕ) → write_in_plan (plan_of own p h body) ≡ write_in_plan (plan_of own q h body)
unfolding plan_of
ports_write own p q h body = go (eqb h.address 0) (eqb h.function 3) (eqb h.address own) (judged (eqb h.function 3) refl)
  where
    judged : (b : Bool) → eqb h.function 3 ≡ b → write_in_plan (judged_on p h body) ≡ write_in_plan (judged_on q h body)
    judged true e =
        read_writes_none _ (is_read (limits p).registers h.function body e) ∙ sym (read_writes_none _ (is_read (limits q).registers h.function body e))
    judged false e = ap (λ (r : Result Request Code). write_in_plan (plan_in (request_plan r))) (registers_aside (limits p).registers (limits q).registers h.function body e)

    go : (zero three own : Bool) → write_in_plan (judged_on p h body) ≡ write_in_plan (judged_on q h body)
        → write_in_plan (cond zero (cond three BroadcastRead (judged_on p h body)) (cond own (judged_on p h body) Foreign))
        ≡ write_in_plan (cond zero (cond three BroadcastRead (judged_on q h body)) (cond own (judged_on q h body) Foreign))
    go true true own e = refl
    go true false own e = e
    go false three true e = e
    go false three false e = refl

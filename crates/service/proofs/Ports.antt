-- Books and figures don't depend on the port, and no reply by radio is longer than 64 bytes. Assumes nothing.
use mathlib.Core.Path.{◌≡◌, refl, sym, ap, subst, ◌∙◌}
use mathlib.Core.Bool.{Bool, true, false, cond, ◌&&◌}
use mathlib.Core.List.{List, []}
use Prim.Native.Nat.{ℕ, zero, suc, ◌≤◌}
use native.Mathlib.Omega.{arith}
use lib.Dec.{eqb, leb, lit≤}
use lib.ListN.{length}
use borrow.Author.Tests.{ne_eqb, leb-true, leb-false, le-leb}
use Rattle.std.specs.Prelude.{ltb, Float}
use Rattle.floats.proofs.Bools.{choose}
use Rattle.ports.specs.Ports.{port_of, port_by, limits}
use Rattle.ports.specs.declared.Port.{Port}
use Rattle.ports.specs.declared.Port.TheVariants.{Serial, Radio}
use Rattle.rtu.specs.Frame.{is_good, body_of as rtu_body}
use Rattle.rtu.proofs.RoundTrip.{body_length}
use Rattle.rtu.proofs.Stores.{framed-length}
use Rattle.framing.specs.Framing.{Carried, carried_if, carried_in, body_of, framed_in}
use Rattle.framing.specs.Framing.Carried.{Bad as BadFrame, Body}
use Rattle.modbus.specs.Request.{header_of}
use Rattle.modbus.specs.declared.Header.{Header}
use Rattle.modbus.specs.declared.Value.{Value}
use Rattle.replies.specs.Reply.{reply_of}
use Rattle.journal.specs.Stores.{begin_words, appends_of}
use Rattle.fields.specs.declared.Field.{Field}
use Rattle.registers.specs.Registers.{device_register}
use Rattle.commands.specs.declared.Written.{Written}
use Rattle.plans.specs.declared.Plan.{Plan}
use Rattle.plans.specs.declared.Plan.TheVariants.{Bad, Foreign, BroadcastRead, Refused, Reading, Writing}
use Rattle.plans.proofs.Plans.{Located, Facts, FactsOf, port_facts, write_in_plan, long_writes_none, ports_write}
use Rattle.sensors.specs.Changes.{raws_of}
use Rattle.state.specs.Sonde.{measured_at, sonde, sensor_at, setup_at, with_sensor, with_setup, with_technician, counted_by, valid_sonde}
use Rattle.state.specs.declared.Counters.{Counters}
use Rattle.state.specs.declared.Sonde.{Sonde}
use Rattle.service.specs.Agrees.{openings, agrees}
use Rattle.service.specs.Reads.{device_of, device_in}
use Rattle.service.specs.Frame.{port_in, carried, arrival_number, plan_for, plan_to, write_at, sonde_after, carried_out, planned, entries_by, answer_of, answer_to, left, frame_of, cut_of, Outcome, outcome, refused_by, Answer}
use Rattle.service.specs.Ports.{uncounted, PortsApart, SameBooks, PortsAlike, RadioReplies, NoPortFirst}
use Rattle.service.specs.Calls.{Begun, begun, made, begin_of, measure_of, raws_finite}
use Rattle.service.specs.declared.Arrival.{Arrival}
use Rattle.service.specs.declared.SondeMade.{SondeMade}
use Rattle.replies.proofs.RoundTrip.{SizedTo}
use Rattle.service.proofs.Cuts.{planned_appends}
use Rattle.service.proofs.Framings.{planned_sized, number_zero}
use Rattle.service.proofs.Owners.{device_write, sensor_write}
use Rattle.service.proofs.Parts.{frame_facts}

-- ---- what a frame writes doesn't depend on the port

module _ (own : ℕ) (frame : List ℕ) where
  abbrev written : Port → Plan
  written p = write_in_plan (plan_for own p (carried_in p false frame))

  -- by what is carried
  same_body : (p q : Port) (c : Carried) → write_in_plan (plan_for own p c) ≡ write_in_plan (plan_for own q c)
  same_body p q BadFrame = refl
  same_body p q (Body b) = ports_write own p q (header_of b) b

  -- a frame that is too long for the radio writes nothing by the serial port either
  long_none : (good : Bool) → 65 ≤ length frame → write_in_plan (plan_for own Serial (carried_if good (rtu_body frame))) ≡ Bad
  long_none true l =
      let b = rtu_body frame in
      long_writes_none (limits Serial).registers b (plan_for own Serial (Body b)) (port_facts own Serial (header_of b) b) (omega (arith, body_length frame))
  long_none false l = refl

  -- which the radio takes as bad
  too_long : (four sum : Bool) (b : List ℕ) → carried_if (four && false && sum) b ≡ BadFrame
  too_long true sum b = refl
  too_long false sum b = refl

  radio_same : written Radio ≡ written Serial
  unfolding carried_in is_good
  radio_same = go (leb (length frame) 64) refl
    where
      go : (short : Bool) → leb (length frame) 64 ≡ short → written Radio ≡ written Serial
      go true e =
          let m : leb (length frame) 256 ≡ true = le-leb (length frame) 256 (omega (arith, leb-true (length frame) 64 e)) in
          rw (e, m) (same_body Radio Serial _)
      go false e = rw (e, too_long (leb 4 (length frame)) _ (rtu_body frame)) (sym (long_none _ (omega (arith, leb-false (length frame) 64 e))))

  to_serial : (p : Port) → written p ≡ written Serial
  to_serial Serial = refl
  to_serial Radio = radio_same

  -- RTU frames by any two ports
  pub ports_same : (p q : Port) → written p ≡ written q
  ports_same p q = to_serial p ∙ sym (to_serial q)

-- ---- nor do the counters have a part in it

-- the sonde with other counters
abbrev pub recounted : Sonde → Counters → Sonde
recounted d c = sonde d.address d.technician d.sensors c

pub recount : (d e : Sonde) → uncounted d ≡ uncounted e → e ≡ recounted d e.counters
unfolding uncounted
recount d e u =
    let address : d.address ≡ e.address = ap (λ (x : Sonde). x.address) u in
    let technician : d.technician ≡ e.technician = ap (λ (x : Sonde). x.technician) u in
    let sensors : d.sensors ≡ e.sensors = ap (λ (x : Sonde). x.sensors) u in
    rw (address, technician, sensors)

-- what a plan leaves of the sonde, by what it writes
abbrev sonde_by : List ℕ → Sonde → Arrival → Plan → Sonde
sonde_by w d a Bad = d
sonde_by w d a Foreign = d
sonde_by w d a BroadcastRead = d
sonde_by w d a (Refused code) = d
sonde_by w d a (Reading start count) = d
sonde_by w d a (Writing o f v) = sonde_after d o (write_at d w a o f v)

module _ (w : List ℕ) (d : Sonde) (a : Arrival) where
  sonde_left : (h : Header) (body : List ℕ) (p : Plan) → (planned d h body w a p).sonde ≡ sonde_by w d a (write_in_plan p)
  unfolding carried_out
  sonde_left h body Bad = refl
  sonde_left h body Foreign = refl
  sonde_left h body BroadcastRead = refl
  sonde_left h body (Refused code) = refl
  sonde_left h body (Reading start count) = refl
  sonde_left h body (Writing o f v) = refl

  entries_left : (p : Plan) → entries_by d w a p ≡ entries_by d w a (write_in_plan p)
  entries_left Bad = refl
  entries_left Foreign = refl
  entries_left BroadcastRead = refl
  entries_left (Refused code) = refl
  entries_left (Reading start count) = refl
  entries_left (Writing o f v) = refl

  volume_left : (h : Header) (body : List ℕ) (p : Plan) → (planned d h body w a p).volume ≡ appends_of 27 w (entries_by d w a (write_in_plan p))
  volume_left h body p = planned_appends d h body w a p ∙ ap (appends_of 27 w) (entries_left p)

-- counting is forgotten with the counters
counted_aside : (x : Answer) (ascii : Bool) (reply : List ℕ) → uncounted (left x ascii reply).sonde ≡ uncounted x.sonde
unfolding uncounted left counted_by
counted_aside x ascii reply = refl

left_volume : (x : Answer) (ascii : Bool) (reply : List ℕ) → (left x ascii reply).volume ≡ x.volume
unfolding left
left_volume x ascii reply = refl

module _ (d : Sonde) (c : Counters) (w : List ℕ) (a b : Arrival) (time : a.clock ≡ b.clock) where
  abbrev twin : Sonde
  twin = recounted d c

  agrees_same : agrees twin w ≡ agrees d w
  unfolding agrees openings valid_sonde setup_at sensor_at
  agrees_same = refl

  -- the write of a field
  write_same : (o : ℕ) (f : Field) (v : Value) → Located f.words o f → write_at twin w b o f v ≡ write_at d w a o f v
  unfolding device_register device_of sensor_at
  write_same zero f v l = rw (device_write (device_in twin w b) (sensor_at twin 0) f v, device_write (device_in d w a) (sensor_at d 0) f v, l.device refl)
  write_same (suc s) f v l =
      rw (
        sensor_write (device_in twin w b) (sensor_at twin (suc s)) f v (suc s) (omega arith),
        sensor_write (device_in d w a) (sensor_at d (suc s)) f v (suc s) (omega arith),
        time,
      )

  -- what a plan leaves is the same by either arrival, the counters aside
  sonde_same : (body : List ℕ) (p : Plan) → Facts body p → uncounted (sonde_by w twin b (write_in_plan p)) ≡ uncounted (sonde_by w d a (write_in_plan p))
  unfolding uncounted sonde_after with_technician with_setup with_sensor setup_at sensor_at
  sonde_same body Bad l = refl
  sonde_same body Foreign l = refl
  sonde_same body BroadcastRead l = refl
  sonde_same body (Refused code) l = refl
  sonde_same body (Reading start count) l = refl
  sonde_same body (Writing o f v) l = ap (λ (x : Written). uncounted (sonde_after d o x)) (write_same o f v l.located)

  entries_same : (body : List ℕ) (p : Plan) → Facts body p → entries_by twin w b (write_in_plan p) ≡ entries_by d w a (write_in_plan p)
  entries_same body Bad l = refl
  entries_same body Foreign l = refl
  entries_same body BroadcastRead l = refl
  entries_same body (Refused code) l = refl
  entries_same body (Reading start count) l = refl
  entries_same body (Writing o f v) l = rw (write_same o f v l.located)

  -- ---- the frame

  module _ (frame reply : List ℕ) (numbers : arrival_number a (length reply) ≡ arrival_number b (length reply))
      (plans : write_in_plan (plan_to d.address frame a) ≡ write_in_plan (plan_to d.address frame b)) where
    abbrev p : Plan
    p = plan_to d.address frame a

    abbrev q : Plan
    q = plan_to d.address frame b

    facts : Facts (body_of (carried frame b)) q
    facts = frame_facts d.address (port_in b) (carried frame b)

    answers_same : SameBooks (left (answer_to d frame w a) a.ascii reply) (left (answer_to twin frame w b) b.ascii reply)
    unfolding answer_of uncounted
    answers_same =
        let x = answer_to d frame w a in
        let y = answer_to twin frame w b in
        let s = body_of (carried frame a) in
        let t = body_of (carried frame b) in
        record {
          number = number_zero x a.ascii reply ∙ sym (number_zero y b.ascii reply);
          sonde = counted_aside x a.ascii reply
              ∙ ap uncounted (sonde_left w d a (header_of s) s p ∙ ap (sonde_by w d a) plans)
              ∙ sym (sonde_same t q facts)
              ∙ ap uncounted (sym (sonde_left w twin b (header_of t) t q))
              ∙ sym (counted_aside y b.ascii reply);
          volume = left_volume x a.ascii reply
              ∙ volume_left w d a (header_of s) s p
              ∙ ap (appends_of 27 w) (ap (entries_by d w a) plans ∙ sym (entries_same t q facts))
              ∙ sym (volume_left w twin b (header_of t) t q)
              ∙ sym (left_volume y b.ascii reply);
        }

    refused_same : (n : ℕ) → SameBooks (outcome (refused_by n d) reply w) (outcome (refused_by n twin) reply w)
    unfolding uncounted
    refused_same n = record { number = refl; sonde = refl; volume = refl }

    frame_same : SameBooks (frame_of d frame reply w a) (frame_of twin frame reply w b)
    unfolding frame_of
    frame_same = rw (← numbers, agrees_same) (go (eqb (arrival_number a (length reply)) 0) (agrees d w))
      where
        go : (taken fit : Bool)
            → SameBooks
            (cond taken (cond fit (left (answer_to d frame w a) a.ascii reply) (outcome (refused_by 4 d) reply w)) (outcome (refused_by (arrival_number a (length reply)) d) reply w))
            (cond taken (cond fit (left (answer_to twin frame w b) b.ascii reply) (outcome (refused_by 4 twin) reply w)) (outcome (refused_by (arrival_number a (length reply)) twin) reply w))
        go false fit = refused_same (arrival_number a (length reply))
        go true false = refused_same 4
        go true true = answers_same

    cut_same : (n : ℕ) → cut_of d frame reply w a n ≡ cut_of twin frame reply w b n
    unfolding cut_of
    cut_same n =
        let entries : entries_by d w a p ≡ entries_by twin w b q =
        entries_left w d a p ∙ ap (entries_by d w a) plans ∙ sym (entries_same (body_of (carried frame b)) q facts) ∙ sym (entries_left w twin b q) in
        rw (frame_same.number, entries)

-- ---- two arrivals that do the same

-- whatever the frame: they are refused by the same number for how they came, at the same time, and write the same
pub record SameTask (own : ℕ) (frame reply : List ℕ) (a b : Arrival) : Type 0 where
  pub time : a.clock ≡ b.clock
  pub numbers : arrival_number a (length reply) ≡ arrival_number b (length reply)
  pub plans : write_in_plan (plan_to own frame a) ≡ write_in_plan (plan_to own frame b)

-- an arrival itself,
pub own_task : (own : ℕ) (frame reply : List ℕ) (a : Arrival) → SameTask own frame reply a a
own_task own frame reply a = record { time = refl; numbers = refl; plans = refl }

-- and RTU frames by either port
pub apart_task : (own : ℕ) (frame reply : List ℕ) (a b : Arrival) → PortsApart a b → SameTask own frame reply a b
unfolding arrival_number port_by
apart_task own frame reply a b p =
    record {
      time = p.clock;
      numbers = rw (p.first_is, p.second_is, p.first_rtu, p.second_rtu);
      plans = rw (p.first_is, p.second_is, p.first_rtu, p.second_rtu) (ports_same own frame p.first p.second);
    }

module _ (d e : Sonde) (u : uncounted d ≡ uncounted e) (frame reply w : List ℕ) (a b : Arrival) (t : SameTask d.address frame reply a b) where
  pub frame_alike : SameBooks (frame_of d frame reply w a) (frame_of e frame reply w b)
  frame_alike =
      subst (λ (x : Sonde). SameBooks (frame_of d frame reply w a) (frame_of x frame reply w b)) (sym (recount d e u))
      (frame_same d e.counters w a b t.time frame reply t.numbers t.plans)

  pub cut_alike : (n : ℕ) → cut_of d frame reply w a n ≡ cut_of e frame reply w b n
  cut_alike n =
      subst (λ (x : Sonde). cut_of d frame reply w a n ≡ cut_of x frame reply w b n) (sym (recount d e u))
      (cut_same d e.counters w a b t.time frame reply t.numbers t.plans n)

pub ports_alike : PortsAlike
ports_alike d e frame reply w a b u p = frame_alike d e u frame reply w a b (apart_task d.address frame reply a b p)

-- ---- the length of a reply by radio

facts_on : (own : ℕ) (port : Port) (x : Carried) → FactsOf (limits port).registers (body_of x) (plan_for own port x)
facts_on own port BadFrame = tt
facts_on own port (Body body) = port_facts own port (header_of body) body

-- the frame of such a body
framed_short : (b : List ℕ) → length b ≤ 62 → length (reply_of false b) ≤ 64
unfolding reply_of framed_in
framed_short b s = choose (λ (l : List ℕ). length l ≤ 64) (eqb (length b) 0) [] _ (λ e. lit≤ tt) (λ e. omega (arith, framed-length b))

-- no reply to what is bad
bad_silent : (d : Sonde) (w : List ℕ) (a : Arrival) (ascii : Bool) (x : Carried) → x ≡ BadFrame → length (reply_of ascii (answer_of d x w a).body) ≤ 64
unfolding answer_of reply_of
bad_silent d w a ascii x e = rw e (lit≤ tt)

module _ (d : Sonde) (frame w : List ℕ) (a : Arrival) (radio : port_in a ≡ Radio) where
  -- an ASCII frame is bad
  ascii_bad : a.ascii ≡ true → carried frame a ≡ BadFrame
  unfolding carried_in
  ascii_bad e = rw (e, radio)

  body_sized : SizedTo 62 (answer_to d frame w a).body
  unfolding answer_of
  body_sized =
      planned_sized 62 29 (lit≤ tt) (lit≤ tt) d (header_of (body_of (carried frame a))) (body_of (carried frame a)) w a (plan_to d.address frame a)
      (subst (λ (q : Port). FactsOf (limits q).registers (body_of (carried frame a)) (plan_to d.address frame a)) radio (facts_on d.address (port_in a) (carried frame a)))

  reply_short : (ascii : Bool) → a.ascii ≡ ascii → length (reply_of ascii (answer_to d frame w a).body) ≤ 64
  reply_short true q = bad_silent d w a true (carried frame a) (ascii_bad q)
  reply_short false q = framed_short _ body_sized.most

-- a frame that names the radio is judged by it
radio_in : (a : Arrival) → a.port ≡ 2 → port_in a ≡ Radio
unfolding port_by port_of
radio_in a p = rw p

pub radio_replies : RadioReplies
unfolding frame_of left
radio_replies d frame reply w a p =
    choose (λ (o : Outcome). o.size ≤ 64) (eqb (arrival_number a (length reply)) 0) _ _
    (λ t. choose (λ (o : Outcome). o.size ≤ 64) (agrees d w) _ _ (λ f. reply_short d frame w a (radio_in a p) a.ascii refl) (λ f. lit≤ tt))
    (λ t. lit≤ tt)

-- ---- a port that isn't there

pub no_port_first : NoPortFirst
unfolding frame_of arrival_number port_of
no_port_first d frame reply w a p q = rw (ne_eqb a.port 1 p, ne_eqb a.port 2 q)

-- ---- the other calls, whose sondes differ in their counters alone

pub record SameBegun (o r : Begun) : Type 0 where
  pub number : o.number ≡ r.number
  pub sonde : uncounted o.sonde ≡ uncounted r.sonde
  pub volume : o.volume ≡ r.volume

pub record SameMade (o r : SondeMade) : Type 0 where
  pub number : o.number ≡ r.number
  pub sonde : uncounted o.sonde ≡ uncounted r.sonde

module _ (d : Sonde) (c : Counters) where
  begin_recounted : (w : List ℕ) → SameBegun (begin_of d w) (begin_of (recounted d c) w)
  unfolding begin_of openings valid_sonde setup_at sensor_at uncounted
  begin_recounted w = go (ltb (length w) 88) (valid_sonde d)
    where
      go : (short valid : Bool)
          → SameBegun
          (cond short (begun (made 2 d) w) (cond valid (begun (made 0 d) (begin_words w (openings d))) (begun (made 4 d) w)))
          (cond short (begun (made 2 (recounted d c)) w) (cond valid (begun (made 0 (recounted d c)) (begin_words w (openings d))) (begun (made 4 (recounted d c)) w)))
      go true valid = record { number = refl; sonde = refl; volume = refl }
      go false true = record { number = refl; sonde = refl; volume = refl }
      go false false = record { number = refl; sonde = refl; volume = refl }

  measure_recounted : (s : ℕ) (present : Bool) (raw1 raw2 : Float) → SameMade (measure_of d s present raw1 raw2) (measure_of (recounted d c) s present raw1 raw2)
  unfolding measure_of valid_sonde sensor_at measured_at with_sensor uncounted
  measure_recounted s present raw1 raw2 = go (valid_sonde d) (ltb s 1) (ltb 4 s) (raws_finite s (raws_of present raw1 raw2))
    where
      m : Sonde → SondeMade
      m x = made 0 (measured_at x s (raws_of present raw1 raw2))

      go : (valid low high finite : Bool)
          → SameMade
          (cond valid (cond low (made 5 d) (cond high (made 5 d) (cond finite (m d) (made 6 d)))) (made 4 d))
          (cond valid (cond low (made 5 (recounted d c)) (cond high (made 5 (recounted d c)) (cond finite (m (recounted d c)) (made 6 (recounted d c))))) (made 4 (recounted d c)))
      go false low high finite = record { number = refl; sonde = refl }
      go true true high finite = record { number = refl; sonde = refl }
      go true false true finite = record { number = refl; sonde = refl }
      go true false false false = record { number = refl; sonde = refl }
      go true false false true = record { number = refl; sonde = refl }

module _ (d e : Sonde) (u : uncounted d ≡ uncounted e) where
  pub begin_alike : (w : List ℕ) → SameBegun (begin_of d w) (begin_of e w)
  begin_alike w = subst (λ (x : Sonde). SameBegun (begin_of d w) (begin_of x w)) (sym (recount d e u)) (begin_recounted d e.counters w)

  pub measure_alike : (s : ℕ) (present : Bool) (raw1 raw2 : Float) → SameMade (measure_of d s present raw1 raw2) (measure_of e s present raw1 raw2)
  measure_alike s present raw1 raw2 =
      subst (λ (x : Sonde). SameMade (measure_of d s present raw1 raw2) (measure_of x s present raw1 raw2)) (sym (recount d e u))
      (measure_recounted d e.counters s present raw1 raw2)

-- Where a reading stands between two lines. Assumes nothing.
use Rattle.std.proofs.Common.{◌≡◌, ℕ, suc, ◌+◌, ◌≤◌, Bool, true, false, cond, eqb, List, [], ◌∷◌, ◌++◌, length, Some, Ok, Err, Option, sym, refl, ap, ◌∙◌, subst, arith}
use Rattle.std.proofs.lemmas.List.{length-append}
use Rattle.std.proofs.lemmas.Bool.{ne_eqb}
use Rattle.frame.specs.declared.frame.OpenFrame.{OpenFrame}
use Rattle.job.specs.declared.job.Job.{Job}
use Rattle.lines.specs.Said.{Said}
use Rattle.lines.specs.Text.{Unbroken}
use Rattle.ticket.specs.declared.due.Due.{Due}
use Rattle.ticket.specs.declared.fault.TicketFault.{TicketFault}
use Rattle.ticket.specs.declared.reading.Reading.{Reading}
use Rattle.ticket.specs.Steps.{State, Step, opening}
use Rattle.ticket.specs.Runs.{Cut, onto, cut, closing, After, Told, step_told, Ends, Stands, Tame, Did, Answers}

unbroken_tail : (c : ℕ) (l : List ℕ) → Unbroken (c ∷ l) → Unbroken l
unbroken_tail c l u k b e = u (suc k) (omega arith) e

-- a byte that ends no line
cut_onto : (c : ℕ) (cs : List ℕ) → (c ≡ 10 → ⊥) → cut (c ∷ cs) ≡ onto c (cut cs).lines (cut cs).loose
cut_onto c cs n = go (eqb c 10) (ne_eqb c 10 n)
  where
    go : (b : Bool) → b ≡ false → cond b (record { lines = [] ∷ (cut cs).lines; loose = (cut cs).loose }) (onto c (cut cs).lines (cut cs).loose) ≡ onto c (cut cs).lines (cut cs).loose
    go true e = cc
    go false e = refl

-- the first line and what follows its end
pub cut_line : (line after : List ℕ) → Unbroken line → cut (line ++ 10 ∷ after) ≡ record { lines = line ∷ (cut after).lines; loose = (cut after).loose }
cut_line [] after u = refl
cut_line (c ∷ line) after u =
    let i = cut_line line after (unbroken_tail c line u) in
    cut_onto c (line ++ 10 ∷ after) (u 0 (omega arith)) ∙ ap (λ (x : Cut). onto c x.lines x.loose) i

-- no line ends
pub cut_none : (bytes : List ℕ) → Unbroken bytes → cut bytes ≡ record { lines = []; loose = bytes }
cut_none [] u = refl
cut_none (c ∷ bytes) u =
    let i = cut_none bytes (unbroken_tail c bytes u) in
    cut_onto c bytes (u 0 (omega arith)) ∙ ap (λ (x : Cut). onto c x.lines x.loose) i

-- what is read so far, and that what follows decides the whole
pub record Along (bytes : List ℕ) (room : ℕ) (rest : List ℕ) (reading : Reading) : Type 0 where
  pub state : State
  pub stands : Stands room reading state
  pub few : reading.at + length rest ≤ length bytes + 1
  pub onward : (end : State) (answer : Option TicketFault) → Ends room reading.at state (cut rest).lines (cut rest).loose end answer → Ends room 1 opening (cut bytes).lines (cut bytes).loose end answer

-- a line and what it led to
pub by_line : (room at : ℕ) (s : State) (rest line after : List ℕ) (o : Option Said) (end : State) (answer : Option TicketFault) → rest ≡ line ++ 10 ∷ after → Unbroken line → Told line o → After (step_told room at s o) (λ t. Ends room (at + 1) t (cut after).lines (cut after).loose end answer) s end answer → Ends room at s (cut rest).lines (cut rest).loose end answer
by_line room at s rest line after o end answer e u t a =
    let c : cut rest ≡ record { lines = line ∷ (cut after).lines; loose = (cut after).loose } = ap cut e ∙ cut_line line after u in
    subst (λ (x : Cut). Ends room at s x.lines x.loose end answer) (sym c) (o, t, a)

-- a step's result, where it is known
stepped : (x : Step) (t : State) (onward : State → Type 0) (s end : State) (answer : Option TicketFault) → x ≡ Ok t → onward t → After x onward s end answer
stepped x t onward s end answer e h = subst (λ (y : Step). After y onward s end answer) (sym e) h

refused : (x : Step) (fault : TicketFault) (onward : State → Type 0) (s : State) → x ≡ Err fault → After x onward s s (Some fault)
refused x fault onward s e = subst (λ (y : Step). After y onward s s (Some fault)) (sym e) (refl, refl)

-- a line that is taken
pub along : (bytes : List ℕ) (room : ℕ) (rest line after : List ℕ) (reading taken : Reading) (next : Due) (a : Along bytes room rest reading) → rest ≡ line ++ 10 ∷ after → Unbroken line → taken.at ≡ reading.at + 1 → taken.due ≡ next → Did room reading.at a.state line taken.frame.now taken.job.now (Ok next) → Along bytes room after taken
along bytes room rest line after reading taken next a e u n m d =
    let k = d.2 in
    let s = a.state in
    record {
      state = k.0;
      stands = record { holds = k.4; due = k.2 ∙ sym m; tame = subst Tame (sym m) k.3 };
      few = omega (arith, a.few, ap length e, length-append line (10 ∷ after));
      onward = λ end answer h. a.onward end answer (by_line room reading.at s rest line after d.0 end answer e u d.1 (stepped (step_told room reading.at s d.0) k.0 (λ t. Ends room (reading.at + 1) t (cut after).lines (cut after).loose end answer) s end answer k.1
          (subst (λ (i : ℕ). Ends room i k.0 (cut after).lines (cut after).loose end answer) n h)));
    }

-- a line that is refused
pub stopped : (bytes : List ℕ) (room : ℕ) (rest line after : List ℕ) (reading : Reading) (frame : OpenFrame) (job : Job) (fault : TicketFault) (a : Along bytes room rest reading) → rest ≡ line ++ 10 ∷ after → Unbroken line → Did room reading.at a.state line frame job (Err fault) → Answers bytes room frame job (Some fault)
stopped bytes room rest line after reading frame job fault a e u d =
    record {
      end = a.state;
      ends = a.onward a.state (Some fault) (by_line room reading.at a.state rest line after d.0 a.state (Some fault) e u d.1 (refused (step_told room reading.at a.state d.0) fault (λ t. Ends room (reading.at + 1) t (cut after).lines (cut after).loose a.state (Some fault)) a.state d.2));
      holds = d.3;
    }

-- no line left
pub closed : (bytes : List ℕ) (room : ℕ) (rest : List ℕ) (reading : Reading) (answer : Option TicketFault) (a : Along bytes room rest reading) → Unbroken rest → answer ≡ closing reading.at reading.due rest → Answers bytes room reading.frame.now reading.job.now answer
closed bytes room rest reading answer a u e =
    let at = reading.at in
    let x : answer ≡ closing at a.state.due rest = e ∙ ap (λ (d : Due). closing at d rest) (sym a.stands.due) in
    record {
      end = a.state;
      ends = a.onward a.state answer (subst (λ (c : Cut). Ends room at a.state c.lines c.loose a.state answer) (sym (cut_none rest u)) (refl, x));
      holds = a.stands.holds;
    }

-- the same of what a frame and a job are left as
pub moved : (bytes : List ℕ) (room room' : ℕ) (frame frame' : OpenFrame) (job job' : Job) (answer answer' : Option TicketFault) → room ≡ room' → frame ≡ frame' → job ≡ job' → answer ≡ answer' → Answers bytes room frame job answer → Answers bytes room' frame' job' answer'
moved bytes room room' frame frame' job job' answer answer' r f j e a =
    let p : Answers bytes room frame job answer ≡ Answers bytes room' frame' job' answer' = λ i. Answers bytes (r i) (f i) (j i) (e i) in
    subst (λ (X : Type 0). X) p a

use Rattle.std.proofs.Common.{◌≡◌, ◌≤◌, ap, ◌∙◌, length, arith}
use Rattle.std.proofs.lemmas.List.{length_push, length-take}
use Rattle.ways.specs.Few.{members}
use Rattle.lines.specs.declared.line.Listed.{Listed}
use Rattle.lines.specs.Said.{capped}
use Rattle.lines.proofs.Lists.{pushed, shorts_yes, shorts_no}
use Rattle.lines.proofs.line.Listed.push.Goals as goal
use Rattle.lines.proofs.line.Listed.push.Goals.{then-self+then-n, else-self, else-self-via-then-self+else-n, else-self-via-else-self}

pub returns : goal.returns
returns c ns v l e =
    let q = l.counted in
    let s = l.short in
    let k : c.short_of.result ≡ capped v = omega (arith, c.short_of.ensures) in
    let few : length (members c.push.new.self) ≤ 17 = omega (arith, c.push.new.self.few, length-take c.push.new.self.count c.push.new.self.items) in
    let taken = pushed (members c.args.self.now.front) (members c.push.new.self) ns v c.push.result l.front few (rw (← k) c.push.ensures) in
    let counts : c.if-self.self.count ≡ c.args.self.now.count = elim c.if-self.branch [
      | then-self+then-n x ↦ ap (λ (p : Listed). p.count) x.self-is
      | else-self x ↦ ap (λ (p : Listed). p.count) x.self-is
    ] in
    let front : c.if-self.self.front ≡ c.push.new.self = elim c.if-self.branch [
      | then-self+then-n x ↦ ap (λ (p : Listed). p.front) x.self-is
      | else-self x ↦ ap (λ (p : Listed). p.front) x.self-is
    ] in
    record {
      counted = omega (arith, length_push ns v);
      few = omega (arith, length_push ns v);
      front = ap members front ∙ taken;
      short = elim c.if-self.branch [
        | then-self+then-n x ↦
            omega (arith, ap (λ (p : Listed). p.short) x.self-is, x.if-self.true, shorts_yes ns v (omega (arith, x.if-self.true)) (omega (arith, x.if-n.true)))
        | else-self x ↦
            elim x.else-self.branch [
              | else-self-via-then-self+else-n y ↦ omega (arith, ap (λ (p : Listed). p.short) x.self-is, shorts_no ns v (λ a b. omega (arith, y.if-n.false)))
              | else-self-via-else-self y ↦ omega (arith, ap (λ (p : Listed). p.short) x.self-is, shorts_no ns v (λ a b. y.if-self.false (omega arith)))
            ]
      ];
    }

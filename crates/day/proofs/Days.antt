-- The answers to a day's calls, one after the other. Assumes nothing.
use Rattle.std.proofs.Common.{◌≡◌, ℕ, ◌+◌, ◌<◌, List, [], ◌∷◌, ◌++◌, map, length, get_or, take, sym, ap, ◌∙◌, subst, arith, below_more}
use Rattle.std.proofs.lemmas.List.{length-map, get_or-map, take_more, get_or_append_left, get_or_push}
use Rattle.oracle.specs.Meaning.{Meaning}
use Rattle.job.specs.declared.call.Call.{Call}
use Rattle.job.specs.declared.job.Job.{Job}
use Rattle.job.specs.Day.{Act, plans}
use Rattle.job.specs.Held.{Agrees}
use Rattle.job.specs.Said.{said}
use Rattle.day.specs.declared.answer.Answer.{Answer}
use Rattle.day.specs.declared.answer.Answer.TheVariants.{Cleared}
use Rattle.day.specs.Run.{Right}

-- each of the first i calls has its right answer
abbrev pub SoFar : Meaning → ℕ → List Call → List Answer → ℕ → Type 0
SoFar m room calls xs i = (k : ℕ) → k < i → Right m room (take k (map said calls)) (get_or (map said calls) k plans) (get_or xs k Cleared)

-- one call more
pub one_more : (m : Meaning) (room : ℕ) (calls : List Call) (i : ℕ) (call : Call) (job : Job) (xs : List Answer) (a : Answer) → i < length calls → call ≡ get_or calls i call → length xs ≡ i → SoFar m room calls xs i → Right m room (take i (map said calls)) (said call) a → Agrees m.count (take i (map said calls) ++ said call ∷ []) job → Agrees m.count (take (i + 1) (map said calls)) job × SoFar m room calls (xs ++ a ∷ []) (i + 1)
one_more m room calls i call job xs a h is len sofar right agrees =
    let acts = map said calls in
    let l : i < length acts = subst (λ (k : ℕ). i < k) (sym (length-map calls said)) h in
    let e : said call ≡ get_or acts i plans = ap said is ∙ sym (get_or-map said calls i call plans h) in (
      subst (λ (cs : List Act). Agrees m.count cs job) (ap (λ (c : Act). take i acts ++ c ∷ []) e ∙ sym (take_more acts i plans l)) agrees,
      below_more (λ k. Right m room (take k acts) (get_or acts k plans) (get_or (xs ++ a ∷ []) k Cleared)) i
          (λ k lt. subst (λ (x : Answer). Right m room (take k acts) (get_or acts k plans) x) (sym (get_or_append_left xs (a ∷ []) Cleared k (omega arith))) (sofar k lt))
          (subst (λ (x : Answer). Right m room (take i acts) (get_or acts i plans) x) (sym (get_or_push xs a Cleared i len)) (subst (λ (c : Act). Right m room (take i acts) c a) e right)),
    )

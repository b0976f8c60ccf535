use mathlib.Core.Path.{◌≡◌}
use mathlib.Core.Bool.{true, false}
use Rattle.block.specs.Value.{value}
use Rattle.verdict.proofs.Judging.{clash_both, left_only, right_only, none_fits}
use Rattle.verdict.proofs.judge_failing_sum.Goals as goal

pub returns-in-true-true : goal.returns-in-true-true
returns-in-true-true c =
    let all = c.has_bytes.ensures in
    let left = c.opens-from_local in
    let right = c.opens-from_remote in
    let x : left.result ≡ true = search in
    let y : right.result ≡ true = search in
    clash_both c.args.keyed.now (value c.args.tweak) c.args.part.now all.local all.tag all.remote c.args.out.now c.requires.3 left.ensures.opened left.ensures.has_tag right.ensures.opened right.ensures.has_tag x y

pub returns-in-true-false : goal.returns-in-true-false
returns-in-true-false c =
    let all = c.has_bytes.ensures in
    let left = c.opens-from_local in
    let right = c.opens-from_remote in
    let x : left.result ≡ true = search in
    let y : right.result ≡ false = search in
    left_only c.args.keyed.now (value c.args.tweak) c.args.part.now all.local all.tag all.remote c.args.out.now c.requires.3 left.ensures.opened left.ensures.has_tag right.ensures.opened right.ensures.has_tag x y c.copy.ensures

pub returns-in-false-true : goal.returns-in-false-true
returns-in-false-true c =
    let all = c.has_bytes.ensures in
    let left = c.opens-from_local in
    let right = c.opens-from_remote in
    let x : left.result ≡ false = search in
    let y : right.result ≡ true = search in
    right_only c.args.keyed.now (value c.args.tweak) c.args.part.now all.local all.tag all.remote c.args.out.now c.requires.3 left.ensures.opened left.ensures.has_tag right.ensures.opened right.ensures.has_tag x y c.copy-in-false-true.ensures

pub returns-in-false-false : goal.returns-in-false-false
returns-in-false-false c =
    let all = c.has_bytes.ensures in
    let left = c.opens-from_local in
    let right = c.opens-from_remote in
    let x : left.result ≡ false = search in
    let y : right.result ≡ false = search in
    none_fits c.args.keyed.now (value c.args.tweak) c.args.part.now all.local all.tag all.remote c.args.out.now c.requires.3 left.ensures.opened left.ensures.has_tag right.ensures.opened right.ensures.has_tag x y

-- Each arm's number says which parities are odd.
use mathlib.Core.Path.{sym}
use native.Mathlib.Omega.{arith}
use Rattle.terms.proofs.LetterLaws.{eight_cases, none_alike}
use Rattle.terms.proofs.letters.counted_letter.Goals as goal

pub returns-in-4 : goal.returns-in-4
returns-in-4 c =
    let args = c.args in
    let is = c.in-4.is in
    sym ((eight_cases args.xs args.ys args.zs).x_alone (omega arith) (omega arith) (omega arith))

pub returns-in-2 : goal.returns-in-2
returns-in-2 c =
    let args = c.args in
    let is = c.in-2.is in
    sym ((eight_cases args.xs args.ys args.zs).y_alone (omega arith) (omega arith) (omega arith))

pub returns-in-1 : goal.returns-in-1
returns-in-1 c =
    let args = c.args in
    let is = c.in-1.is in
    sym ((eight_cases args.xs args.ys args.zs).z_alone (omega arith) (omega arith) (omega arith))

pub returns-in-3 : goal.returns-in-3
returns-in-3 c =
    let args = c.args in
    let is = c.in-3.is in
    sym ((eight_cases args.xs args.ys args.zs).y_and_z (omega arith) (omega arith) (omega arith))

pub returns-in-5 : goal.returns-in-5
returns-in-5 c =
    let args = c.args in
    let is = c.in-5.is in
    sym ((eight_cases args.xs args.ys args.zs).x_and_z (omega arith) (omega arith) (omega arith))

pub returns-in-6 : goal.returns-in-6
returns-in-6 c =
    let args = c.args in
    let is = c.in-6.is in
    sym ((eight_cases args.xs args.ys args.zs).x_and_y (omega arith) (omega arith) (omega arith))

pub returns-in_default : goal.returns-in_default
returns-in_default c =
    let args = c.args in
    sym (none_alike args.xs args.ys args.zs (omega arith) (omega arith))

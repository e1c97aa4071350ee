use Rattle.std.specs.Prelude.{codes}
use Rattle.std.proofs.Common.{◌≡◌, false, sym, ◌∙◌, inl, inr}
use Rattle.hprof_weak.proofs.called.is_clearing.Goals as goal
use Rattle.hprof_weak.proofs.called.is_clearing.Goals.{then-is_label, else-is_label}

pub returns-else-is_label-2 : goal.returns-else-is_label-2
returns-else-is_label-2 c =
    let called = c.label_of-label.ensures in
    let phantom = c.is_label-else-is_label-2.ensures in
    let neither : c.if-is_label.value ≡ false = c.if-is_label-2.false in
    elim c.if-is_label.branch [
      | then-is_label w ↦ let yes = w.value-is in absurd cc
      | else-is_label w ↦
          let no_soft = w.if-is_label.false in
          let no_weak : w.is_label-else-is_label.result ≡ false = sym w.value-is ∙ neither in (
            λ yes. inr (inr ((called (codes "java/lang/ref/PhantomReference")).1 (phantom.0 yes))),
            λ is. elim is [
              | inl soft ↦ let yes = c.is_label.ensures.1 ((called (codes "java/lang/ref/SoftReference")).0 soft) in absurd cc
              | inr other ↦ elim other [
                | inl weak ↦
                    let yes = w.is_label-else-is_label.ensures.1 ((called (codes "java/lang/ref/WeakReference")).0 weak) in
                    absurd cc
                | inr is_phantom ↦ phantom.1 ((called (codes "java/lang/ref/PhantomReference")).0 is_phantom)
              ]
            ],
          )
    ]

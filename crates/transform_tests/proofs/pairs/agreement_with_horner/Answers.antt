-- The roots of each case, with the inverses that the test at the divisors asks for.
use Rattle.std.proofs.Common.{[], ◌∷◌, refl, arith, lit<, lit≤}
use Rattle.transform_tests.proofs.Checked.{root_by}
use Rattle.transform_tests.proofs.pairs.agreement_with_horner.Goals as goal

pub agree-requires : goal.agree-requires
agree-requires g c = record {
  some = omega arith;
  few = omega arith;
  odd = refl;
  above = omega arith;
  small = lit< tt;
  zeta_in = lit< tt;
  psi_in = lit< tt;
  one_more = refl;
  zeta_order = refl;
  is_root = root_by 1073741833 895483975 3 (0 ∷ 775247174 ∷ []) refl refl refl;
  size = 8;
  is_size = record { exponent = 3; is_power = refl; enough = lit≤ tt; least = lit< tt };
  psi_half = refl;
}

pub agree-requires-2 : goal.agree-requires-2
agree-requires-2 g c = record {
  some = omega arith;
  few = omega arith;
  odd = refl;
  above = omega arith;
  small = lit< tt;
  zeta_in = lit< tt;
  psi_in = lit< tt;
  one_more = refl;
  zeta_order = refl;
  is_root = root_by 9150049 8670823 3 (0 ∷ 6259774 ∷ []) refl refl refl;
  size = 8;
  is_size = record { exponent = 3; is_power = refl; enough = lit≤ tt; least = lit< tt };
  psi_half = refl;
}

pub agree-requires-3 : goal.agree-requires-3
agree-requires-3 g c = record {
  some = omega arith;
  few = omega arith;
  odd = refl;
  above = omega arith;
  small = lit< tt;
  zeta_in = lit< tt;
  psi_in = lit< tt;
  one_more = refl;
  zeta_order = refl;
  is_root = root_by 1073742721 681734614 5 (0 ∷ 497839141 ∷ []) refl refl refl;
  size = 16;
  is_size = record { exponent = 4; is_power = refl; enough = lit≤ tt; least = lit< tt };
  psi_half = refl;
}

pub agree-requires-4 : goal.agree-requires-4
agree-requires-4 g c = record {
  some = omega arith;
  few = omega arith;
  odd = refl;
  above = omega arith;
  small = lit< tt;
  zeta_in = lit< tt;
  psi_in = lit< tt;
  one_more = refl;
  zeta_order = refl;
  is_root = root_by 9490961 2880873 5 (0 ∷ 4221458 ∷ []) refl refl refl;
  size = 16;
  is_size = record { exponent = 4; is_power = refl; enough = lit≤ tt; least = lit< tt };
  psi_half = refl;
}

pub agree-requires-5 : goal.agree-requires-5
agree-requires-5 g c = record {
  some = omega arith;
  few = omega arith;
  odd = refl;
  above = omega arith;
  small = lit< tt;
  zeta_in = lit< tt;
  psi_in = lit< tt;
  one_more = refl;
  zeta_order = refl;
  is_root = root_by 1073742209 958694551 7 (0 ∷ 980055525 ∷ []) refl refl refl;
  size = 16;
  is_size = record { exponent = 4; is_power = refl; enough = lit≤ tt; least = lit< tt };
  psi_half = refl;
}

pub agree-requires-6 : goal.agree-requires-6
agree-requires-6 g c = record {
  some = omega arith;
  few = omega arith;
  odd = refl;
  above = omega arith;
  small = lit< tt;
  zeta_in = lit< tt;
  psi_in = lit< tt;
  one_more = refl;
  zeta_order = refl;
  is_root = root_by 10543457 7119442 7 (0 ∷ 6380095 ∷ []) refl refl refl;
  size = 16;
  is_size = record { exponent = 4; is_power = refl; enough = lit≤ tt; least = lit< tt };
  psi_half = refl;
}

pub agree-requires-7 : goal.agree-requires-7
agree-requires-7 g c = record {
  some = omega arith;
  few = omega arith;
  odd = refl;
  above = omega arith;
  small = lit< tt;
  zeta_in = lit< tt;
  psi_in = lit< tt;
  one_more = refl;
  zeta_order = refl;
  is_root = root_by 1073741857 440913690 8 (0 ∷ 715065018 ∷ 705976903 ∷ 0 ∷ 536870928 ∷ []) refl refl refl;
  size = 16;
  is_size = record { exponent = 4; is_power = refl; enough = lit≤ tt; least = lit< tt };
  psi_half = refl;
}

pub agree-requires-8 : goal.agree-requires-8
agree-requires-8 g c = record {
  some = omega arith;
  few = omega arith;
  odd = refl;
  above = omega arith;
  small = lit< tt;
  zeta_in = lit< tt;
  psi_in = lit< tt;
  one_more = refl;
  zeta_order = refl;
  is_root = root_by 9393649 9238373 8 (0 ∷ 7004780 ∷ 1430403 ∷ 0 ∷ 4696824 ∷ []) refl refl refl;
  size = 16;
  is_size = record { exponent = 4; is_power = refl; enough = lit≤ tt; least = lit< tt };
  psi_half = refl;
}

pub agree-requires-9 : goal.agree-requires-9
agree-requires-9 g c = record {
  some = omega arith;
  few = omega arith;
  odd = refl;
  above = omega arith;
  small = lit< tt;
  zeta_in = lit< tt;
  psi_in = lit< tt;
  one_more = refl;
  zeta_order = refl;
  is_root = root_by 1073741857 817298106 12 (0 ∷ 633720244 ∷ 295508294 ∷ 705976903 ∷ 814330669 ∷ 0 ∷ 536870928 ∷ []) refl refl refl;
  size = 32;
  is_size = record { exponent = 5; is_power = refl; enough = lit≤ tt; least = lit< tt };
  psi_half = refl;
}

pub agree-requires-10 : goal.agree-requires-10
agree-requires-10 g c = record {
  some = omega arith;
  few = omega arith;
  odd = refl;
  above = omega arith;
  small = lit< tt;
  zeta_in = lit< tt;
  psi_in = lit< tt;
  one_more = refl;
  zeta_order = refl;
  is_root = root_by 10651009 7283766 12 (0 ∷ 781320 ∷ 3840730 ∷ 3795799 ∷ 1280243 ∷ 0 ∷ 5325504 ∷ []) refl refl refl;
  size = 32;
  is_size = record { exponent = 5; is_power = refl; enough = lit≤ tt; least = lit< tt };
  psi_half = refl;
}

pub agree-requires-11 : goal.agree-requires-11
agree-requires-11 g c = record {
  some = omega arith;
  few = omega arith;
  odd = refl;
  above = omega arith;
  small = lit< tt;
  zeta_in = lit< tt;
  psi_in = lit< tt;
  one_more = refl;
  zeta_order = refl;
  is_root = root_by 1073742721 922861446 15 (0 ∷ 697410075 ∷ 0 ∷ 497839141 ∷ 0 ∷ 235587758 ∷ []) refl refl refl;
  size = 32;
  is_size = record { exponent = 5; is_power = refl; enough = lit≤ tt; least = lit< tt };
  psi_half = refl;
}

pub agree-requires-12 : goal.agree-requires-12
agree-requires-12 g c = record {
  some = omega arith;
  few = omega arith;
  odd = refl;
  above = omega arith;
  small = lit< tt;
  zeta_in = lit< tt;
  psi_in = lit< tt;
  one_more = refl;
  zeta_order = refl;
  is_root = root_by 16136161 8061781 15 (0 ∷ 569843 ∷ 0 ∷ 7384268 ∷ 0 ∷ 1821959 ∷ []) refl refl refl;
  size = 32;
  is_size = record { exponent = 5; is_power = refl; enough = lit≤ tt; least = lit< tt };
  psi_half = refl;
}

pub agree-requires-13 : goal.agree-requires-13
agree-requires-13 g c = record {
  some = omega arith;
  few = omega arith;
  odd = refl;
  above = omega arith;
  small = lit< tt;
  zeta_in = lit< tt;
  psi_in = lit< tt;
  one_more = refl;
  zeta_order = refl;
  is_root = root_by 1073747137 276627652 21 (0 ∷ 906058429 ∷ 0 ∷ 587936360 ∷ 0 ∷ 0 ∷ 0 ∷ 207527323 ∷ []) refl refl refl;
  size = 64;
  is_size = record { exponent = 6; is_power = refl; enough = lit≤ tt; least = lit< tt };
  psi_half = refl;
}

pub agree-requires-14 : goal.agree-requires-14
agree-requires-14 g c = record {
  some = omega arith;
  few = omega arith;
  odd = refl;
  above = omega arith;
  small = lit< tt;
  zeta_in = lit< tt;
  psi_in = lit< tt;
  one_more = refl;
  zeta_order = refl;
  is_root = root_by 28914817 12866855 21 (0 ∷ 28104939 ∷ 0 ∷ 24154011 ∷ 0 ∷ 0 ∷ 0 ∷ 22686962 ∷ []) refl refl refl;
  size = 64;
  is_size = record { exponent = 6; is_power = refl; enough = lit≤ tt; least = lit< tt };
  psi_half = refl;
}

pub agree-requires-15 : goal.agree-requires-15
agree-requires-15 g c = record {
  some = omega arith;
  few = omega arith;
  odd = refl;
  above = omega arith;
  small = lit< tt;
  zeta_in = lit< tt;
  psi_in = lit< tt;
  one_more = refl;
  zeta_order = refl;
  is_root = root_by 1073741953 869576111 32 (0 ∷ 591758044 ∷ 10423274 ∷ 0 ∷ 381837131 ∷ 0 ∷ 0 ∷ 0 ∷ 1030390115 ∷ 0 ∷ 0 ∷ 0 ∷ 0 ∷ 0 ∷ 0 ∷ 0 ∷ 536870976 ∷ []) refl refl refl;
  size = 64;
  is_size = record { exponent = 6; is_power = refl; enough = lit≤ tt; least = lit< tt };
  psi_half = refl;
}

pub agree-requires-16 : goal.agree-requires-16
agree-requires-16 g c = record {
  some = omega arith;
  few = omega arith;
  odd = refl;
  above = omega arith;
  small = lit< tt;
  zeta_in = lit< tt;
  psi_in = lit< tt;
  one_more = refl;
  zeta_order = refl;
  is_root = root_by 10443073 4782976 32 (0 ∷ 4202170 ∷ 4858599 ∷ 0 ∷ 3529145 ∷ 0 ∷ 0 ∷ 0 ∷ 8471440 ∷ 0 ∷ 0 ∷ 0 ∷ 0 ∷ 0 ∷ 0 ∷ 0 ∷ 5221536 ∷ []) refl refl refl;
  size = 64;
  is_size = record { exponent = 6; is_power = refl; enough = lit≤ tt; least = lit< tt };
  psi_half = refl;
}

pub agree-requires-17 : goal.agree-requires-17
agree-requires-17 g c = record {
  some = omega arith;
  few = omega arith;
  odd = refl;
  above = omega arith;
  small = lit< tt;
  zeta_in = lit< tt;
  psi_in = lit< tt;
  one_more = refl;
  zeta_order = refl;
  is_root = root_by 1073936641 284913024 105 (0 ∷ 295647131 ∷ 0 ∷ 22524629 ∷ 0 ∷ 576876479 ∷ 0 ∷ 832478482 ∷ 0 ∷ 0 ∷ 0 ∷ 0 ∷ 0 ∷ 0 ∷ 0 ∷ 814791839 ∷ 0 ∷ 0 ∷ 0 ∷ 0 ∷ 0 ∷ 878653914 ∷ 0 ∷ 0 ∷ 0 ∷ 0 ∷ 0 ∷ 0 ∷ 0 ∷ 0 ∷ 0 ∷ 0 ∷ 0 ∷ 0 ∷ 0 ∷ 616590212 ∷ []) refl refl refl;
  size = 256;
  is_size = record { exponent = 8; is_power = refl; enough = lit≤ tt; least = lit< tt };
  psi_half = refl;
}

pub agree-requires-18 : goal.agree-requires-18
agree-requires-18 g c = record {
  some = omega arith;
  few = omega arith;
  odd = refl;
  above = omega arith;
  small = lit< tt;
  zeta_in = lit< tt;
  psi_in = lit< tt;
  one_more = refl;
  zeta_order = refl;
  is_root = root_by 3612833281 1754267394 105 (0 ∷ 966757286 ∷ 0 ∷ 602427626 ∷ 0 ∷ 1793885710 ∷ 0 ∷ 2866325201 ∷ 0 ∷ 0 ∷ 0 ∷ 0 ∷ 0 ∷ 0 ∷ 0 ∷ 21126340 ∷ 0 ∷ 0 ∷ 0 ∷ 0 ∷ 0 ∷ 2771994456 ∷ 0 ∷ 0 ∷ 0 ∷ 0 ∷ 0 ∷ 0 ∷ 0 ∷ 0 ∷ 0 ∷ 0 ∷ 0 ∷ 0 ∷ 0 ∷ 3097218911 ∷ []) refl refl refl;
  size = 256;
  is_size = record { exponent = 8; is_power = refl; enough = lit≤ tt; least = lit< tt };
  psi_half = refl;
}

pub agree-requires-19 : goal.agree-requires-19
agree-requires-19 g c = record {
  some = omega arith;
  few = omega arith;
  odd = refl;
  above = omega arith;
  small = lit< tt;
  zeta_in = lit< tt;
  psi_in = lit< tt;
  one_more = refl;
  zeta_order = refl;
  is_root = root_by 1073748737 127489421 128 (0 ∷ 437820340 ∷ 999873128 ∷ 0 ∷ 1008424200 ∷ 0 ∷ 0 ∷ 0 ∷ 533843144 ∷ 0 ∷ 0 ∷ 0 ∷ 0 ∷ 0 ∷ 0 ∷ 0 ∷ 862593110 ∷ 0 ∷ 0 ∷ 0 ∷ 0 ∷ 0 ∷ 0 ∷ 0 ∷ 0 ∷ 0 ∷ 0 ∷ 0 ∷ 0 ∷ 0 ∷ 0 ∷ 0 ∷ 961287078 ∷ 0 ∷ 0 ∷ 0 ∷ 0 ∷ 0 ∷ 0 ∷ 0 ∷ 0 ∷ 0 ∷ 0 ∷ 0 ∷ 0 ∷ 0 ∷ 0 ∷ 0 ∷ 0 ∷ 0 ∷ 0 ∷ 0 ∷ 0 ∷ 0 ∷ 0 ∷ 0 ∷ 0 ∷ 0 ∷ 0 ∷ 0 ∷ 0 ∷ 0 ∷ 0 ∷ 0 ∷ 536874368 ∷ []) refl refl refl;
  size = 256;
  is_size = record { exponent = 8; is_power = refl; enough = lit≤ tt; least = lit< tt };
  psi_half = refl;
}

pub agree-requires-20 : goal.agree-requires-20
agree-requires-20 g c = record {
  some = omega arith;
  few = omega arith;
  odd = refl;
  above = omega arith;
  small = lit< tt;
  zeta_in = lit< tt;
  psi_in = lit< tt;
  one_more = refl;
  zeta_order = refl;
  is_root = root_by 25570049 6103972 128 (0 ∷ 12714872 ∷ 24098908 ∷ 0 ∷ 3176838 ∷ 0 ∷ 0 ∷ 0 ∷ 6619640 ∷ 0 ∷ 0 ∷ 0 ∷ 0 ∷ 0 ∷ 0 ∷ 0 ∷ 6638431 ∷ 0 ∷ 0 ∷ 0 ∷ 0 ∷ 0 ∷ 0 ∷ 0 ∷ 0 ∷ 0 ∷ 0 ∷ 0 ∷ 0 ∷ 0 ∷ 0 ∷ 0 ∷ 2981919 ∷ 0 ∷ 0 ∷ 0 ∷ 0 ∷ 0 ∷ 0 ∷ 0 ∷ 0 ∷ 0 ∷ 0 ∷ 0 ∷ 0 ∷ 0 ∷ 0 ∷ 0 ∷ 0 ∷ 0 ∷ 0 ∷ 0 ∷ 0 ∷ 0 ∷ 0 ∷ 0 ∷ 0 ∷ 0 ∷ 0 ∷ 0 ∷ 0 ∷ 0 ∷ 0 ∷ 0 ∷ 12785024 ∷ []) refl refl refl;
  size = 256;
  is_size = record { exponent = 8; is_power = refl; enough = lit≤ tt; least = lit< tt };
  psi_half = refl;
}

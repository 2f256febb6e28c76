-- `gf256::split_tables::split_product` meets its contract: the arms hold the split tables, and a product is the sum of one entry of each.
use mathlib.Core.Path.{◌≡◌, sym, ap, ap₂, ◌∙◌}
use Prim.Native.Nat.{◌/◌, ◌%◌}
use native.Mathlib.Omega.{arith}
use Rattle.gf256.specs.declared.split_tables.Rows.{Rows}
use Rattle.gf256.specs.Field.{sum, entry_of}
use Rattle.gf256.proofs.SplitTables.{split_rows, rows_of, low, high}
use Rattle.gf256.proofs.SplitRules.{product_by_entries}
use Rattle.gf256.proofs.split_tables.split_product.Goals as goal
use Rattle.gf256.proofs.split_tables.split_product.Goals.{in-0, in-1, in-2, in-3, in-4, in-5, in-6, in-7, in-8, in-9, in-10, in-11, in-12, in-13, in-14, in-15, in-16, in-17, in-18, in-19, in-20, in-21, in-22, in-23, in-24, in-25, in-26, in-27, in-28, in-29, in-30, in-31, in-32, in-33, in-34, in-35, in-36, in-37, in-38, in-39, in-40, in-41, in-42, in-43, in-44, in-45, in-46, in-47, in-48, in-49, in-50, in-51, in-52, in-53, in-54, in-55, in-56, in-57, in-58, in-59, in-60, in-61, in-62, in-63, in-64, in-65, in-66, in-67, in-68, in-69, in-70, in-71, in-72, in-73, in-74, in-75, in-76, in-77, in-78, in-79, in-80, in-81, in-82, in-83, in-84, in-85, in-86, in-87, in-88, in-89, in-90, in-91, in-92, in-93, in-94, in-95, in-96, in-97, in-98, in-99, in-100, in-101, in-102, in-103, in-104, in-105, in-106, in-107, in-108, in-109, in-110, in-111, in-112, in-113, in-114, in-115, in-116, in-117, in-118, in-119, in-120, in-121, in-122, in-123, in-124, in-125, in-126, in-127, in-128, in-129, in-130, in-131, in-132, in-133, in-134, in-135, in-136, in-137, in-138, in-139, in-140, in-141, in-142, in-143, in-144, in-145, in-146, in-147, in-148, in-149, in-150, in-151, in-152, in-153, in-154, in-155, in-156, in-157, in-158, in-159, in-160, in-161, in-162, in-163, in-164, in-165, in-166, in-167, in-168, in-169, in-170, in-171, in-172, in-173, in-174, in-175, in-176, in-177, in-178, in-179, in-180, in-181, in-182, in-183, in-184, in-185, in-186, in-187, in-188, in-189, in-190, in-191, in-192, in-193, in-194, in-195, in-196, in-197, in-198, in-199, in-200, in-201, in-202, in-203, in-204, in-205, in-206, in-207, in-208, in-209, in-210, in-211, in-212, in-213, in-214, in-215, in-216, in-217, in-218, in-219, in-220, in-221, in-222, in-223, in-224, in-225, in-226, in-227, in-228, in-229, in-230, in-231, in-232, in-233, in-234, in-235, in-236, in-237, in-238, in-239, in-240, in-241, in-242, in-243, in-244, in-245, in-246, in-247, in-248, in-249, in-250, in-251, in-252, in-253, in-254, in_default}

pub returns : goal.returns
unfolding low high rows_of split_rows
returns c =
    let a = c.args in
    let are : c.match-multiplier.rows ≡ rows_of a.multiplier = elim c.match-multiplier.branch [ in-0 w ↦ w.rows-is ∙ ap rows_of (sym w.in-0.is) | in-1 w ↦ w.rows-is ∙ ap rows_of (sym w.in-1.is) | in-2 w ↦ w.rows-is ∙ ap rows_of (sym w.in-2.is) | in-3 w ↦ w.rows-is ∙ ap rows_of (sym w.in-3.is) | in-4 w ↦ w.rows-is ∙ ap rows_of (sym w.in-4.is) | in-5 w ↦ w.rows-is ∙ ap rows_of (sym w.in-5.is) | in-6 w ↦ w.rows-is ∙ ap rows_of (sym w.in-6.is) | in-7 w ↦ w.rows-is ∙ ap rows_of (sym w.in-7.is) | in-8 w ↦ w.rows-is ∙ ap rows_of (sym w.in-8.is) | in-9 w ↦ w.rows-is ∙ ap rows_of (sym w.in-9.is) | in-10 w ↦ w.rows-is ∙ ap rows_of (sym w.in-10.is) | in-11 w ↦ w.rows-is ∙ ap rows_of (sym w.in-11.is) | in-12 w ↦ w.rows-is ∙ ap rows_of (sym w.in-12.is) | in-13 w ↦ w.rows-is ∙ ap rows_of (sym w.in-13.is) | in-14 w ↦ w.rows-is ∙ ap rows_of (sym w.in-14.is) | in-15 w ↦ w.rows-is ∙ ap rows_of (sym w.in-15.is) | in-16 w ↦ w.rows-is ∙ ap rows_of (sym w.in-16.is) | in-17 w ↦ w.rows-is ∙ ap rows_of (sym w.in-17.is) | in-18 w ↦ w.rows-is ∙ ap rows_of (sym w.in-18.is) | in-19 w ↦ w.rows-is ∙ ap rows_of (sym w.in-19.is) | in-20 w ↦ w.rows-is ∙ ap rows_of (sym w.in-20.is) | in-21 w ↦ w.rows-is ∙ ap rows_of (sym w.in-21.is) | in-22 w ↦ w.rows-is ∙ ap rows_of (sym w.in-22.is) | in-23 w ↦ w.rows-is ∙ ap rows_of (sym w.in-23.is) | in-24 w ↦ w.rows-is ∙ ap rows_of (sym w.in-24.is) | in-25 w ↦ w.rows-is ∙ ap rows_of (sym w.in-25.is) | in-26 w ↦ w.rows-is ∙ ap rows_of (sym w.in-26.is) | in-27 w ↦ w.rows-is ∙ ap rows_of (sym w.in-27.is) | in-28 w ↦ w.rows-is ∙ ap rows_of (sym w.in-28.is) | in-29 w ↦ w.rows-is ∙ ap rows_of (sym w.in-29.is) | in-30 w ↦ w.rows-is ∙ ap rows_of (sym w.in-30.is) | in-31 w ↦ w.rows-is ∙ ap rows_of (sym w.in-31.is) | in-32 w ↦ w.rows-is ∙ ap rows_of (sym w.in-32.is) | in-33 w ↦ w.rows-is ∙ ap rows_of (sym w.in-33.is) | in-34 w ↦ w.rows-is ∙ ap rows_of (sym w.in-34.is) | in-35 w ↦ w.rows-is ∙ ap rows_of (sym w.in-35.is) | in-36 w ↦ w.rows-is ∙ ap rows_of (sym w.in-36.is) | in-37 w ↦ w.rows-is ∙ ap rows_of (sym w.in-37.is) | in-38 w ↦ w.rows-is ∙ ap rows_of (sym w.in-38.is) | in-39 w ↦ w.rows-is ∙ ap rows_of (sym w.in-39.is) | in-40 w ↦ w.rows-is ∙ ap rows_of (sym w.in-40.is) | in-41 w ↦ w.rows-is ∙ ap rows_of (sym w.in-41.is) | in-42 w ↦ w.rows-is ∙ ap rows_of (sym w.in-42.is) | in-43 w ↦ w.rows-is ∙ ap rows_of (sym w.in-43.is) | in-44 w ↦ w.rows-is ∙ ap rows_of (sym w.in-44.is) | in-45 w ↦ w.rows-is ∙ ap rows_of (sym w.in-45.is) | in-46 w ↦ w.rows-is ∙ ap rows_of (sym w.in-46.is) | in-47 w ↦ w.rows-is ∙ ap rows_of (sym w.in-47.is) | in-48 w ↦ w.rows-is ∙ ap rows_of (sym w.in-48.is) | in-49 w ↦ w.rows-is ∙ ap rows_of (sym w.in-49.is) | in-50 w ↦ w.rows-is ∙ ap rows_of (sym w.in-50.is) | in-51 w ↦ w.rows-is ∙ ap rows_of (sym w.in-51.is) | in-52 w ↦ w.rows-is ∙ ap rows_of (sym w.in-52.is) | in-53 w ↦ w.rows-is ∙ ap rows_of (sym w.in-53.is) | in-54 w ↦ w.rows-is ∙ ap rows_of (sym w.in-54.is) | in-55 w ↦ w.rows-is ∙ ap rows_of (sym w.in-55.is) | in-56 w ↦ w.rows-is ∙ ap rows_of (sym w.in-56.is) | in-57 w ↦ w.rows-is ∙ ap rows_of (sym w.in-57.is) | in-58 w ↦ w.rows-is ∙ ap rows_of (sym w.in-58.is) | in-59 w ↦ w.rows-is ∙ ap rows_of (sym w.in-59.is) | in-60 w ↦ w.rows-is ∙ ap rows_of (sym w.in-60.is) | in-61 w ↦ w.rows-is ∙ ap rows_of (sym w.in-61.is) | in-62 w ↦ w.rows-is ∙ ap rows_of (sym w.in-62.is) | in-63 w ↦ w.rows-is ∙ ap rows_of (sym w.in-63.is) | in-64 w ↦ w.rows-is ∙ ap rows_of (sym w.in-64.is) | in-65 w ↦ w.rows-is ∙ ap rows_of (sym w.in-65.is) | in-66 w ↦ w.rows-is ∙ ap rows_of (sym w.in-66.is) | in-67 w ↦ w.rows-is ∙ ap rows_of (sym w.in-67.is) | in-68 w ↦ w.rows-is ∙ ap rows_of (sym w.in-68.is) | in-69 w ↦ w.rows-is ∙ ap rows_of (sym w.in-69.is) | in-70 w ↦ w.rows-is ∙ ap rows_of (sym w.in-70.is) | in-71 w ↦ w.rows-is ∙ ap rows_of (sym w.in-71.is) | in-72 w ↦ w.rows-is ∙ ap rows_of (sym w.in-72.is) | in-73 w ↦ w.rows-is ∙ ap rows_of (sym w.in-73.is) | in-74 w ↦ w.rows-is ∙ ap rows_of (sym w.in-74.is) | in-75 w ↦ w.rows-is ∙ ap rows_of (sym w.in-75.is) | in-76 w ↦ w.rows-is ∙ ap rows_of (sym w.in-76.is) | in-77 w ↦ w.rows-is ∙ ap rows_of (sym w.in-77.is) | in-78 w ↦ w.rows-is ∙ ap rows_of (sym w.in-78.is) | in-79 w ↦ w.rows-is ∙ ap rows_of (sym w.in-79.is) | in-80 w ↦ w.rows-is ∙ ap rows_of (sym w.in-80.is) | in-81 w ↦ w.rows-is ∙ ap rows_of (sym w.in-81.is) | in-82 w ↦ w.rows-is ∙ ap rows_of (sym w.in-82.is) | in-83 w ↦ w.rows-is ∙ ap rows_of (sym w.in-83.is) | in-84 w ↦ w.rows-is ∙ ap rows_of (sym w.in-84.is) | in-85 w ↦ w.rows-is ∙ ap rows_of (sym w.in-85.is) | in-86 w ↦ w.rows-is ∙ ap rows_of (sym w.in-86.is) | in-87 w ↦ w.rows-is ∙ ap rows_of (sym w.in-87.is) | in-88 w ↦ w.rows-is ∙ ap rows_of (sym w.in-88.is) | in-89 w ↦ w.rows-is ∙ ap rows_of (sym w.in-89.is) | in-90 w ↦ w.rows-is ∙ ap rows_of (sym w.in-90.is) | in-91 w ↦ w.rows-is ∙ ap rows_of (sym w.in-91.is) | in-92 w ↦ w.rows-is ∙ ap rows_of (sym w.in-92.is) | in-93 w ↦ w.rows-is ∙ ap rows_of (sym w.in-93.is) | in-94 w ↦ w.rows-is ∙ ap rows_of (sym w.in-94.is) | in-95 w ↦ w.rows-is ∙ ap rows_of (sym w.in-95.is) | in-96 w ↦ w.rows-is ∙ ap rows_of (sym w.in-96.is) | in-97 w ↦ w.rows-is ∙ ap rows_of (sym w.in-97.is) | in-98 w ↦ w.rows-is ∙ ap rows_of (sym w.in-98.is) | in-99 w ↦ w.rows-is ∙ ap rows_of (sym w.in-99.is) | in-100 w ↦ w.rows-is ∙ ap rows_of (sym w.in-100.is) | in-101 w ↦ w.rows-is ∙ ap rows_of (sym w.in-101.is) | in-102 w ↦ w.rows-is ∙ ap rows_of (sym w.in-102.is) | in-103 w ↦ w.rows-is ∙ ap rows_of (sym w.in-103.is) | in-104 w ↦ w.rows-is ∙ ap rows_of (sym w.in-104.is) | in-105 w ↦ w.rows-is ∙ ap rows_of (sym w.in-105.is) | in-106 w ↦ w.rows-is ∙ ap rows_of (sym w.in-106.is) | in-107 w ↦ w.rows-is ∙ ap rows_of (sym w.in-107.is) | in-108 w ↦ w.rows-is ∙ ap rows_of (sym w.in-108.is) | in-109 w ↦ w.rows-is ∙ ap rows_of (sym w.in-109.is) | in-110 w ↦ w.rows-is ∙ ap rows_of (sym w.in-110.is) | in-111 w ↦ w.rows-is ∙ ap rows_of (sym w.in-111.is) | in-112 w ↦ w.rows-is ∙ ap rows_of (sym w.in-112.is) | in-113 w ↦ w.rows-is ∙ ap rows_of (sym w.in-113.is) | in-114 w ↦ w.rows-is ∙ ap rows_of (sym w.in-114.is) | in-115 w ↦ w.rows-is ∙ ap rows_of (sym w.in-115.is) | in-116 w ↦ w.rows-is ∙ ap rows_of (sym w.in-116.is) | in-117 w ↦ w.rows-is ∙ ap rows_of (sym w.in-117.is) | in-118 w ↦ w.rows-is ∙ ap rows_of (sym w.in-118.is) | in-119 w ↦ w.rows-is ∙ ap rows_of (sym w.in-119.is) | in-120 w ↦ w.rows-is ∙ ap rows_of (sym w.in-120.is) | in-121 w ↦ w.rows-is ∙ ap rows_of (sym w.in-121.is) | in-122 w ↦ w.rows-is ∙ ap rows_of (sym w.in-122.is) | in-123 w ↦ w.rows-is ∙ ap rows_of (sym w.in-123.is) | in-124 w ↦ w.rows-is ∙ ap rows_of (sym w.in-124.is) | in-125 w ↦ w.rows-is ∙ ap rows_of (sym w.in-125.is) | in-126 w ↦ w.rows-is ∙ ap rows_of (sym w.in-126.is) | in-127 w ↦ w.rows-is ∙ ap rows_of (sym w.in-127.is) | in-128 w ↦ w.rows-is ∙ ap rows_of (sym w.in-128.is) | in-129 w ↦ w.rows-is ∙ ap rows_of (sym w.in-129.is) | in-130 w ↦ w.rows-is ∙ ap rows_of (sym w.in-130.is) | in-131 w ↦ w.rows-is ∙ ap rows_of (sym w.in-131.is) | in-132 w ↦ w.rows-is ∙ ap rows_of (sym w.in-132.is) | in-133 w ↦ w.rows-is ∙ ap rows_of (sym w.in-133.is) | in-134 w ↦ w.rows-is ∙ ap rows_of (sym w.in-134.is) | in-135 w ↦ w.rows-is ∙ ap rows_of (sym w.in-135.is) | in-136 w ↦ w.rows-is ∙ ap rows_of (sym w.in-136.is) | in-137 w ↦ w.rows-is ∙ ap rows_of (sym w.in-137.is) | in-138 w ↦ w.rows-is ∙ ap rows_of (sym w.in-138.is) | in-139 w ↦ w.rows-is ∙ ap rows_of (sym w.in-139.is) | in-140 w ↦ w.rows-is ∙ ap rows_of (sym w.in-140.is) | in-141 w ↦ w.rows-is ∙ ap rows_of (sym w.in-141.is) | in-142 w ↦ w.rows-is ∙ ap rows_of (sym w.in-142.is) | in-143 w ↦ w.rows-is ∙ ap rows_of (sym w.in-143.is) | in-144 w ↦ w.rows-is ∙ ap rows_of (sym w.in-144.is) | in-145 w ↦ w.rows-is ∙ ap rows_of (sym w.in-145.is) | in-146 w ↦ w.rows-is ∙ ap rows_of (sym w.in-146.is) | in-147 w ↦ w.rows-is ∙ ap rows_of (sym w.in-147.is) | in-148 w ↦ w.rows-is ∙ ap rows_of (sym w.in-148.is) | in-149 w ↦ w.rows-is ∙ ap rows_of (sym w.in-149.is) | in-150 w ↦ w.rows-is ∙ ap rows_of (sym w.in-150.is) | in-151 w ↦ w.rows-is ∙ ap rows_of (sym w.in-151.is) | in-152 w ↦ w.rows-is ∙ ap rows_of (sym w.in-152.is) | in-153 w ↦ w.rows-is ∙ ap rows_of (sym w.in-153.is) | in-154 w ↦ w.rows-is ∙ ap rows_of (sym w.in-154.is) | in-155 w ↦ w.rows-is ∙ ap rows_of (sym w.in-155.is) | in-156 w ↦ w.rows-is ∙ ap rows_of (sym w.in-156.is) | in-157 w ↦ w.rows-is ∙ ap rows_of (sym w.in-157.is) | in-158 w ↦ w.rows-is ∙ ap rows_of (sym w.in-158.is) | in-159 w ↦ w.rows-is ∙ ap rows_of (sym w.in-159.is) | in-160 w ↦ w.rows-is ∙ ap rows_of (sym w.in-160.is) | in-161 w ↦ w.rows-is ∙ ap rows_of (sym w.in-161.is) | in-162 w ↦ w.rows-is ∙ ap rows_of (sym w.in-162.is) | in-163 w ↦ w.rows-is ∙ ap rows_of (sym w.in-163.is) | in-164 w ↦ w.rows-is ∙ ap rows_of (sym w.in-164.is) | in-165 w ↦ w.rows-is ∙ ap rows_of (sym w.in-165.is) | in-166 w ↦ w.rows-is ∙ ap rows_of (sym w.in-166.is) | in-167 w ↦ w.rows-is ∙ ap rows_of (sym w.in-167.is) | in-168 w ↦ w.rows-is ∙ ap rows_of (sym w.in-168.is) | in-169 w ↦ w.rows-is ∙ ap rows_of (sym w.in-169.is) | in-170 w ↦ w.rows-is ∙ ap rows_of (sym w.in-170.is) | in-171 w ↦ w.rows-is ∙ ap rows_of (sym w.in-171.is) | in-172 w ↦ w.rows-is ∙ ap rows_of (sym w.in-172.is) | in-173 w ↦ w.rows-is ∙ ap rows_of (sym w.in-173.is) | in-174 w ↦ w.rows-is ∙ ap rows_of (sym w.in-174.is) | in-175 w ↦ w.rows-is ∙ ap rows_of (sym w.in-175.is) | in-176 w ↦ w.rows-is ∙ ap rows_of (sym w.in-176.is) | in-177 w ↦ w.rows-is ∙ ap rows_of (sym w.in-177.is) | in-178 w ↦ w.rows-is ∙ ap rows_of (sym w.in-178.is) | in-179 w ↦ w.rows-is ∙ ap rows_of (sym w.in-179.is) | in-180 w ↦ w.rows-is ∙ ap rows_of (sym w.in-180.is) | in-181 w ↦ w.rows-is ∙ ap rows_of (sym w.in-181.is) | in-182 w ↦ w.rows-is ∙ ap rows_of (sym w.in-182.is) | in-183 w ↦ w.rows-is ∙ ap rows_of (sym w.in-183.is) | in-184 w ↦ w.rows-is ∙ ap rows_of (sym w.in-184.is) | in-185 w ↦ w.rows-is ∙ ap rows_of (sym w.in-185.is) | in-186 w ↦ w.rows-is ∙ ap rows_of (sym w.in-186.is) | in-187 w ↦ w.rows-is ∙ ap rows_of (sym w.in-187.is) | in-188 w ↦ w.rows-is ∙ ap rows_of (sym w.in-188.is) | in-189 w ↦ w.rows-is ∙ ap rows_of (sym w.in-189.is) | in-190 w ↦ w.rows-is ∙ ap rows_of (sym w.in-190.is) | in-191 w ↦ w.rows-is ∙ ap rows_of (sym w.in-191.is) | in-192 w ↦ w.rows-is ∙ ap rows_of (sym w.in-192.is) | in-193 w ↦ w.rows-is ∙ ap rows_of (sym w.in-193.is) | in-194 w ↦ w.rows-is ∙ ap rows_of (sym w.in-194.is) | in-195 w ↦ w.rows-is ∙ ap rows_of (sym w.in-195.is) | in-196 w ↦ w.rows-is ∙ ap rows_of (sym w.in-196.is) | in-197 w ↦ w.rows-is ∙ ap rows_of (sym w.in-197.is) | in-198 w ↦ w.rows-is ∙ ap rows_of (sym w.in-198.is) | in-199 w ↦ w.rows-is ∙ ap rows_of (sym w.in-199.is) | in-200 w ↦ w.rows-is ∙ ap rows_of (sym w.in-200.is) | in-201 w ↦ w.rows-is ∙ ap rows_of (sym w.in-201.is) | in-202 w ↦ w.rows-is ∙ ap rows_of (sym w.in-202.is) | in-203 w ↦ w.rows-is ∙ ap rows_of (sym w.in-203.is) | in-204 w ↦ w.rows-is ∙ ap rows_of (sym w.in-204.is) | in-205 w ↦ w.rows-is ∙ ap rows_of (sym w.in-205.is) | in-206 w ↦ w.rows-is ∙ ap rows_of (sym w.in-206.is) | in-207 w ↦ w.rows-is ∙ ap rows_of (sym w.in-207.is) | in-208 w ↦ w.rows-is ∙ ap rows_of (sym w.in-208.is) | in-209 w ↦ w.rows-is ∙ ap rows_of (sym w.in-209.is) | in-210 w ↦ w.rows-is ∙ ap rows_of (sym w.in-210.is) | in-211 w ↦ w.rows-is ∙ ap rows_of (sym w.in-211.is) | in-212 w ↦ w.rows-is ∙ ap rows_of (sym w.in-212.is) | in-213 w ↦ w.rows-is ∙ ap rows_of (sym w.in-213.is) | in-214 w ↦ w.rows-is ∙ ap rows_of (sym w.in-214.is) | in-215 w ↦ w.rows-is ∙ ap rows_of (sym w.in-215.is) | in-216 w ↦ w.rows-is ∙ ap rows_of (sym w.in-216.is) | in-217 w ↦ w.rows-is ∙ ap rows_of (sym w.in-217.is) | in-218 w ↦ w.rows-is ∙ ap rows_of (sym w.in-218.is) | in-219 w ↦ w.rows-is ∙ ap rows_of (sym w.in-219.is) | in-220 w ↦ w.rows-is ∙ ap rows_of (sym w.in-220.is) | in-221 w ↦ w.rows-is ∙ ap rows_of (sym w.in-221.is) | in-222 w ↦ w.rows-is ∙ ap rows_of (sym w.in-222.is) | in-223 w ↦ w.rows-is ∙ ap rows_of (sym w.in-223.is) | in-224 w ↦ w.rows-is ∙ ap rows_of (sym w.in-224.is) | in-225 w ↦ w.rows-is ∙ ap rows_of (sym w.in-225.is) | in-226 w ↦ w.rows-is ∙ ap rows_of (sym w.in-226.is) | in-227 w ↦ w.rows-is ∙ ap rows_of (sym w.in-227.is) | in-228 w ↦ w.rows-is ∙ ap rows_of (sym w.in-228.is) | in-229 w ↦ w.rows-is ∙ ap rows_of (sym w.in-229.is) | in-230 w ↦ w.rows-is ∙ ap rows_of (sym w.in-230.is) | in-231 w ↦ w.rows-is ∙ ap rows_of (sym w.in-231.is) | in-232 w ↦ w.rows-is ∙ ap rows_of (sym w.in-232.is) | in-233 w ↦ w.rows-is ∙ ap rows_of (sym w.in-233.is) | in-234 w ↦ w.rows-is ∙ ap rows_of (sym w.in-234.is) | in-235 w ↦ w.rows-is ∙ ap rows_of (sym w.in-235.is) | in-236 w ↦ w.rows-is ∙ ap rows_of (sym w.in-236.is) | in-237 w ↦ w.rows-is ∙ ap rows_of (sym w.in-237.is) | in-238 w ↦ w.rows-is ∙ ap rows_of (sym w.in-238.is) | in-239 w ↦ w.rows-is ∙ ap rows_of (sym w.in-239.is) | in-240 w ↦ w.rows-is ∙ ap rows_of (sym w.in-240.is) | in-241 w ↦ w.rows-is ∙ ap rows_of (sym w.in-241.is) | in-242 w ↦ w.rows-is ∙ ap rows_of (sym w.in-242.is) | in-243 w ↦ w.rows-is ∙ ap rows_of (sym w.in-243.is) | in-244 w ↦ w.rows-is ∙ ap rows_of (sym w.in-244.is) | in-245 w ↦ w.rows-is ∙ ap rows_of (sym w.in-245.is) | in-246 w ↦ w.rows-is ∙ ap rows_of (sym w.in-246.is) | in-247 w ↦ w.rows-is ∙ ap rows_of (sym w.in-247.is) | in-248 w ↦ w.rows-is ∙ ap rows_of (sym w.in-248.is) | in-249 w ↦ w.rows-is ∙ ap rows_of (sym w.in-249.is) | in-250 w ↦ w.rows-is ∙ ap rows_of (sym w.in-250.is) | in-251 w ↦ w.rows-is ∙ ap rows_of (sym w.in-251.is) | in-252 w ↦ w.rows-is ∙ ap rows_of (sym w.in-252.is) | in-253 w ↦ w.rows-is ∙ ap rows_of (sym w.in-253.is) | in-254 w ↦ w.rows-is ∙ ap rows_of (sym w.in-254.is) | in_default w ↦ let e : a.multiplier ≡ 255 = omega (arith, w.in_default, c.ranges.multiplier.fits) in w.rows-is ∙ ap rows_of (sym e) ] in
    ap₂ sum (c.entry.ensures ∙ ap (λ (r : Rows). entry_of r.low0 r.low8 (a.x % 16)) are)
    (c.entry-2.ensures ∙ ap (λ (r : Rows). entry_of r.high0 r.high8 (a.x / 16)) are)
    ∙ product_by_entries a.multiplier a.x (omega arith) (omega arith)

mod Disks
